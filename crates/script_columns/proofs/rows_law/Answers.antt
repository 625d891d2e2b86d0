use Rattle.std.proofs.Common.{refl}
use Rattle.script_columns.proofs.Numerals.{d0, d1, d12, d15, d257, d32767, d32768}
use Rattle.script_columns.proofs.rows_law.Goals as goal

pub returns : goal.returns
returns c = record {
  head = refl;
  all_true = refl;
  clocked = refl;
  ticked = rw (d0, d1, d12) refl;
  memory = refl;
  words = rw (d257, d15) refl;
  cut_name = refl;
  cut_number = refl;
  cut_text = refl;
  digits = refl;
  low_digits = refl;
  signed = rw d1 refl;
  lowest = rw d32768 refl;
  unsigned = d32767;
  nothing = refl;
  no_places = refl;
  lines = refl;
  ended = refl;
  star = refl;
  star_put = refl;
  other = refl;
  shorter = refl;
  longer = refl;
  missing = refl;
}
