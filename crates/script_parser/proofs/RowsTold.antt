-- The rows by computation.
use Rattle.std.proofs.Common.{refl, inl, inr}
use Rattle.grammar.specs.Rules.{marked, worded, at_end, both, left, right, ended, again, named, inside, not_mark, not_word, past, first, second, in_left, in_right, in_repeat, in_name, in_within}
use Rattle.script_parser.specs.Rows.{RowsLaw}

pub rows : RowsLaw
rows = record {
  empty = (_, _, refl, both (ended refl) at_end);
  repeated = (_, _, refl, both (again refl (named (left refl (inside refl refl (both (marked refl) (both (worded refl refl) (both (marked refl) (both (again refl (named (right refl refl (both (left refl (worded refl refl)) (marked refl)))) (ended refl)) (marked refl)))))))) (again refl (named (right refl refl (both (left refl (worded refl refl)) (marked refl)))) (ended refl))) at_end);
  binary = (_, _, refl, both (again refl (named (right refl refl (both (right refl refl (right refl refl (right refl refl (right refl refl (right refl refl (left refl (both (marked refl) (both (worded refl refl) (worded refl refl))))))))) (marked refl)))) (ended refl)) at_end);
  negative = (_, _, refl, both (again refl (named (right refl refl (both (right refl refl (right refl refl (right refl refl (right refl refl (right refl refl (left refl (both (marked refl) (both (worded refl refl) (worded refl refl))))))))) (marked refl)))) (ended refl)) at_end);
  listed = (_, _, refl, both (again refl (named (right refl refl (both (right refl refl (right refl refl (right refl refl (right refl refl (left refl (both (marked refl) (both (worded refl refl) (again refl (worded refl refl) (ended refl))))))))) (marked refl)))) (ended refl)) at_end);
  echoed = (_, _, refl, both (again refl (named (right refl refl (both (right refl refl (right refl refl (right refl refl (right refl refl (right refl refl (right refl refl (left refl (both (marked refl) (worded refl refl))))))))) (marked refl)))) (ended refl)) at_end);
  image = (_, _, refl, both (again refl (named (right refl refl (both (right refl refl (right refl refl (right refl refl (right refl refl (right refl refl (right refl refl (right refl refl (both (worded refl refl) (both (marked refl) (worded refl refl)))))))))) (marked refl)))) (ended refl)) at_end);
  open_act = inr (_, refl, first (in_repeat refl (in_name (in_right refl refl (second (left refl (worded refl refl)) (not_mark refl))))));
  other_ending = inr (_, refl, first (in_repeat refl (in_name (in_right refl refl (first (in_right refl refl (in_left refl (second (marked refl) (not_word refl)))))))));
  large = inr (_, refl, first (in_repeat refl (in_name (in_right refl refl (first (in_right refl refl (in_right refl refl (in_right refl refl (in_right refl refl (in_right refl refl (in_left refl (second (marked refl) (second (worded refl refl) (past refl refl))))))))))))));
  low = inr (_, refl, first (in_repeat refl (in_name (in_right refl refl (first (in_right refl refl (in_right refl refl (in_right refl refl (in_right refl refl (in_right refl refl (in_left refl (second (marked refl) (second (worded refl refl) (past refl refl))))))))))))));
  wide = inr (_, refl, first (in_repeat refl (in_name (in_right refl refl (first (in_right refl refl (in_right refl refl (in_right refl refl (in_right refl refl (in_left refl (second (marked refl) (first (past refl refl)))))))))))));
  often = inr (_, refl, first (in_repeat refl (in_name (in_left refl (in_within refl refl (second (marked refl) (second (worded refl refl) (second (marked refl) (first (in_repeat refl (in_name (in_left refl (in_within refl refl (second (marked refl) (first (past refl refl))))))))))))))));
  unclosed = inl refl;
}
