-- The worked numbers, by computing.
use Rattle.std.proofs.Common.{refl}
use Rattle.rules.specs.Worked.{WorkedNumbers}

pub worked_numbers : WorkedNumbers
worked_numbers = record {
  empty_read = refl;
  empty_length = refl;
  empty_steps = refl;
  pause_read = refl;
  pause_length = refl;
  pause_steps = refl;
  loop_steps = refl;
  longest_accepted = refl;
  longest_read = refl;
  longest_steps = refl;
  too_long = refl;
  too_long_refused = refl;
  all_sum = refl;
  past_arm = refl;
  left_first_arm_first = refl;
  left_second_arm_first = refl;
  new_least = refl;
  mod_least = refl;
  strong = refl;
  weak = refl;
  strong_immediate = refl;
  weak_immediate = refl;
  left_nested = refl;
  right_nested = refl;
  classic_strong = refl;
  classic_strong_over = refl;
  classic_weak = refl;
  classic_strong_immediate = refl;
  classic_weak_immediate = refl;
  nested_aborts_rate = refl;
  nested_weak_aborts_rate = refl;
  classic_read = refl;
  nested_read = refl;
  dosing_read = refl;
}
