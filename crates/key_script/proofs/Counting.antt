-- Moments that rise, and what is counted after them.
use Rattle.std.proofs.Common.{◌≡◌, ℕ, ◌+◌, ◌≤◌, true, List, [], ◌∷◌, ◌++◌, refl, le-leb}
use Rattle.std.proofs.lemmas.Bool.{and_parts, and_from}
use Rattle.key_script.specs.declared.lines.Line.{Line}
use Rattle.key_script.specs.Grammar.{after_line, after_lines}
use Rattle.key_script.specs.Codes.{are_rising}

pub after_lines-push : (least : ℕ) (ls : List Line) (l : Line) → after_lines least (ls ++ l ∷ []) ≡ l.moment + 1
after_lines-push least [] l = refl
after_lines-push least (m ∷ ls) l = after_lines-push (after_line m) ls l

pub are_rising-push : (least : ℕ) (ls : List Line) (l : Line) → are_rising least ls ≡ true → after_lines least ls ≤ l.moment → are_rising least (ls ++ l ∷ []) ≡ true
are_rising-push least [] l up le = and_from _ _ (le-leb least l.moment le) refl
are_rising-push least (m ∷ ls) l up le = and_from _ _ (and_parts _ _ up).0 (are_rising-push (m.moment + 1) ls l (and_parts _ _ up).1 le)
