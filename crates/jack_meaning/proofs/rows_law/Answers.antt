-- Each row is a computation.
use Rattle.std.proofs.Common.{◌≡◌, ◌≢◌, ℕ, zero, Bool, true, false, Option, Some, None, [], option_map, refl}
use Rattle.jack_meaning.specs.Text.{Program}
use Rattle.jack_meaning.specs.Meaning.{start}
use Rattle.jack_meaning.specs.Level.{meaning_of, run, IsTame}
use Rattle.jack_meaning.specs.Rows.{stores_one, calls_itself}
use Rattle.jack_meaning.proofs.Tamed.{all_fit, tamed, untamed}
use Rattle.jack_meaning.proofs.Reached.{is_init, is_main, is_inner, is_outer, no_start, no_last, gap_is}
use Rattle.jack_meaning.proofs.rows_law.Goals as goal

tame_run : (program : Program) (m : ℕ) → all_fit (meaning_of program.subroutines) (start program) [] m (run program [] zero) ≡ true → IsTame program [] m
tame_run program m h = tamed (meaning_of program.subroutines) (start program) [] m h

untame_run : (program : Program) (m : ℕ) → option_map (λ l. (meaning_of program.subroutines).fits l.state) (run program [] m) ≢ Some true → IsTame program [] m → ⊥
untame_run program m h t = untamed (meaning_of program.subroutines) (start program) [] m h t

none-not-some : let none : Option Bool = None in none ≢ Some true
none-not-some e = absurd cc

false-not-true : Some false ≢ Some true
false-not-true e = absurd cc

pub returns : goal.returns
returns c = record {
  store = refl;
  store_done = refl;
  outside = refl;
  outside_stray = refl;
  taking = refl;
  making = refl;
  making_done = refl;
  first = refl;
  second = refl;
  ninth = refl;
  tenth = refl;
  choice = refl;
  complement_choice = refl;
  inverse = refl;
  shifted_left = refl;
  shifted_right = refl;
  not_less = refl;
  less = refl;
  last_turn = refl;
  first_turn = refl;
  no_turn = refl;
  key = refl;
  no_key = refl;
  two_keys = refl;
  method = refl;
  unheard = refl;
  one_heard = refl;
  still_one = refl;
  two_heard = refl;
  heard_in_all = refl;
  words_of_adding = refl;
  words_of_both = refl;
  words_of_storing = refl;
  words_of_start = refl;
  tame_store = tame_run (stores_one 16384) 14 refl;
  no_further = λ t. untame_run (stores_one 16384) 15 none-not-some t;
  tame_before_stray = tame_run (stores_one 100) 7 refl;
  stray_not_tame = λ t. untame_run (stores_one 100) 8 none-not-some t;
  wants_much = refl;
  tame_still = tame_run (calls_itself 0) 356 refl;
  wants_too_much = refl;
  tame_no_more = λ t. untame_run (calls_itself 0) 357 false-not-true t;
  wants_most = refl;
  tame_at_most = tame_run (calls_itself 4) 356 refl;
  depth_of_choice = refl;
  depth_in_else = refl;
  depth_of_none = refl;
  linked_init = is_init;
  linked_main = is_main;
  linked_outer = is_outer;
  linked_inner = is_inner;
  not_start = no_start;
  not_last = no_last;
  gap_of_linked = gap_is;
}
