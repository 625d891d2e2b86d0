-- The rows by computation.
use Rattle.std.proofs.Common.{◌≡◌, ◌++◌, ℕ, List, [], ◌∷◌, refl, ap, ◌∙◌, inl, inr, true, false, lit<, lit≤, Some}
use Rattle.std.specs.Prelude.{decimal, codes}
use Rattle.std.proofs.lemmas.Fmt.{decimal_digit, decimal_step}
use Rattle.script_columns.specs.Comparison.{agrees}
use Rattle.script_device.specs.Devices.Device.{Empty}
use Rattle.script_device.specs.Devices.{Source, CanSet}
use Rattle.script_device.specs.Devices.Source.{TheTime, OfChip, OfMachine}
use Rattle.tst_runner.specs.Lines.{IsLine}
use Rattle.tst_runner.specs.Standing.{Standing, Compared, Agrees, at_first, with_line, with_echo}
use Rattle.tst_runner.specs.Gathering.Gather.{one_more, no_more}
use Rattle.tst_runner.specs.Rows.{ScriptRowsLaw, time_item}

d0 : decimal 0 ≡ 48 ∷ []
d0 = decimal_digit 0 (lit< tt)

d1 : decimal 1 ≡ 49 ∷ []
d1 = decimal_digit 1 (lit< tt)

d13 : decimal 13 ≡ codes "13"
d13 = decimal_step 13 (lit≤ tt) (lit< tt) ∙ ap (λ t. t ++ 51 ∷ []) d1

bar : IsLine Empty [] (codes "|")
bar = record { there = ([], ((λ i c. false), tt)); is = λ told v sees. ([], tt, refl) }

abbrev with_bar : Standing → Standing
with_bar s = with_line s (codes "|")

abbrev time_line : List ℕ
time_line = codes "| 0    |"

time : IsLine Empty (time_item ∷ []) time_line
time = record { there = ([], ((λ i c. false), tt)); is = λ told v sees. (TheTime ∷ [], (refl, tt), rw d0 refl) }

-- before the first load nothing can be set
no_set : (text : List ℕ) (source : Source) → CanSet Empty text source → ⊥
no_set text TheTime can = can
no_set text (OfChip source) can = can
no_set text (OfMachine register) can = can

abbrev compare_file : Compared
compare_file = record { path = codes "t/a.cmp"; lines = codes "||" ∷ [] }

abbrev comparing : Standing
comparing = record at_first { compared = Some compare_file }

unlike : (compared : List ℕ) → Some (codes "||") ≡ Some compared → agrees compared (codes "|") ≡ true → ⊥
unlike compared got same = let e : codes "||" ≡ compared = cc in let no : false ≡ true = ap (λ t. agrees t (codes "|")) e ∙ same in absurd cc

other : Agrees comparing (codes "|") → ⊥
other a = unlike a.0 a.1 a.2

pub rows : ScriptRowsLaw
rows = record {
  bars = (with_bar (with_bar at_first), (with_bar at_first, inr (at_first, codes "|", (refl, bar), tt, refl), (with_bar (with_bar at_first), inr (with_bar at_first, codes "|", (refl, bar), tt, refl), refl)), refl, refl);
  echoes =
      let a = with_echo at_first (codes "a") in
      let b = with_bar a in
      let last = with_echo b (codes "b") in
      (last, (a, inl refl, (b, inr (a, codes "|", (refl, bar), tt, refl), (last, inl refl, refl))), refl, refl);
  heads =
      let listed : Standing = record at_first { items = time_item ∷ [] } in
      let a = with_line listed (codes "| time |") in
      let last = with_line a time_line in
      (last, (a, inr (listed, codes "| time |", ((TheTime ∷ [], (refl, tt)), refl, refl), tt, refl), (a, inl refl, (last, inr (a, time_line, (refl, time), tt, refl), refl))), refl, refl);
  repeated = refl;
  nameless = (no_set (codes "a"), rw (d1, d13) refl);
  missing = one_more [] (inr (inr (refl, refl, refl, refl, refl))) no_more;
  before = inl (refl, refl);
  in_folder = refl;
  in_none = refl;
  nested = refl;
  silent = (λ a. a, λ l. l);
  lacking = refl;
  pieces = (refl, refl);
  differs = (with_bar comparing, record { compared = compare_file; compares = refl; r = comparing; line = codes "|"; puts = (refl, bar); differs = other; is = refl }, refl, refl);
}
