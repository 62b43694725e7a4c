pub mod Gathering
pub mod Parted
pub mod Signs
