-- What is added to a body, part by part.
use Rattle.std.proofs.Common.{◌≡◌, ◌+◌, ◌++◌, ◌<◌, ◌≤◌, ℕ, zero, suc, Bool, true, false, List, [], ◌∷◌, length, get_or, refl, sym, ap, ◌∙◌, arith, append_assoc, if◌then◌else◌}
use Rattle.std.proofs.lemmas.List.{append-nil}
use Rattle.vm_tree.specs.declared.command.Line.{Line}
use Rattle.vm_tree.specs.declared.command.Command.TheVariants as command
use Rattle.jack_meaning.specs.Text.{Expression, Statement, Text, End, Next, If, While}
use Rattle.jack_core.specs.declared.program.Statement.{Statement as TheStatement}
use Rattle.jack_core.specs.Texts.{the_statement, the_block}
use Rattle.jack_compiler.specs.Templates.{first_number, no_else}
use Rattle.jack_compiler.specs.Lines.{Around, quiet, if_false, if_end, while_exp, into_if, into_else, into_while, out_of_while, expression_lines, statement_lines, text_lines, ifs_of, ifs_in, whiles_of, whiles_in}
use Rattle.jack_compiler.specs.declared.bodies.Body.{Body}
use Rattle.jack_compiler.specs.Inner.Added.{Adds, AddsText}

four : {A : Type 0} (l0 l1 l2 l3 l4 p q r s : List A) → l1 ≡ l0 ++ p → l2 ≡ l1 ++ q → l3 ≡ l2 ++ r → l4 ≡ l3 ++ s → l4 ≡ l0 ++ (p ++ (q ++ (r ++ s)))
four l0 l1 l2 l3 l4 p q r s a b c d =
    d ∙ ap (λ z. z ++ s) c ∙ append_assoc l2 r s
    ∙ ap (λ z. z ++ (r ++ s)) b ∙ append_assoc l1 q (r ++ s)
    ∙ ap (λ z. z ++ (q ++ (r ++ s))) a ∙ append_assoc l0 p (q ++ (r ++ s))

-- the lines of a text that begins where this many labels stand
text_at : (around : Around) (next i w : ℕ) (t : Text) (m m' : Body) (l : List Line) → AddsText around next t m m' → m.lines ≡ l → m.ifs ≡ i → m.whiles ≡ w → m'.lines ≡ l ++ text_lines around next i w t
text_at around next i w t m m' l h a b c =
    h.lines ∙ ap (λ z. z ++ text_lines around next m.ifs m.whiles t) a ∙ ap (λ (z : ℕ). l ++ text_lines around next z m.whiles t) b ∙ ap (λ (z : ℕ). l ++ text_lines around next i z t) c

no_ifs : (has : Bool) (b : Text) → no_else has b ≡ true → ifs_in b ≡ 0
no_ifs has End e = refl
no_ifs has (Next s rest) e = absurd cc

no_whiles : (has : Bool) (b : Text) → no_else has b ≡ true → whiles_in b ≡ 0
no_whiles has End e = refl
no_whiles has (Next s rest) e = absurd cc

-- an `if` without an `else`
pub adds_short : (around : Around) (next n : ℕ) (has : Bool) (c : Expression) (a b : Text) (old new m m' : Body) (l1 l2 : List Line)
    → no_else has b ≡ true → l1 ≡ old.lines ++ expression_lines around n c → l2 ≡ l1 ++ into_if n (first_number next b) old.ifs
    → m.lines ≡ l2 → m.ifs ≡ suc old.ifs → m.whiles ≡ old.whiles → AddsText around next a m m'
    → new.lines ≡ m'.lines ++ quiet n (command.Label (if_false old.ifs)) ∷ [] → new.ifs ≡ m'.ifs → new.whiles ≡ m'.whiles
    → Adds around next (If n has c a b) old new
adds_short around next n has c a b old new m m' l1 l2 e h1 h2 ml mi mw t nl ni nw = record {
  lines =
      four old.lines l1 l2 m'.lines new.lines (expression_lines around n c) (into_if n (first_number next b) old.ifs)
      (text_lines around next (suc old.ifs) old.whiles a) (quiet n (command.Label (if_false old.ifs)) ∷ [])
      h1 h2 (text_at around next (suc old.ifs) old.whiles a m m' l2 t ml mi mw) nl
      ∙ ap (λ (z : Bool). old.lines ++ (expression_lines around n c ++ (into_if n (first_number next b) old.ifs ++ (text_lines around next (suc old.ifs) old.whiles a
      ++ (if z then quiet n (command.Label (if_false old.ifs)) ∷ [] else into_else n next old.ifs ++ (text_lines around next (suc old.ifs + ifs_in a) (old.whiles + whiles_in a) b ++ quiet n (command.Label (if_end old.ifs)) ∷ [])))))) (sym e);
  ifs = let x = t.ifs in let y = no_ifs has b e in omega arith;
  whiles = let x = t.whiles in let y = no_whiles has b e in omega arith;
}

-- an `if` with one
pub adds_long : (around : Around) (next n : ℕ) (has : Bool) (c : Expression) (a b : Text) (old new m m' o o' : Body) (l1 l2 : List Line)
    → no_else has b ≡ false → l1 ≡ old.lines ++ expression_lines around n c → l2 ≡ l1 ++ into_if n (first_number next b) old.ifs
    → m.lines ≡ l2 → m.ifs ≡ suc old.ifs → m.whiles ≡ old.whiles → AddsText around next a m m'
    → o.lines ≡ m'.lines ++ into_else n next old.ifs → o.ifs ≡ m'.ifs → o.whiles ≡ m'.whiles → AddsText around next b o o'
    → new.lines ≡ o'.lines ++ quiet n (command.Label (if_end old.ifs)) ∷ [] → new.ifs ≡ o'.ifs → new.whiles ≡ o'.whiles
    → Adds around next (If n has c a b) old new
adds_long around next n has c a b old new m m' o o' l1 l2 e h1 h2 ml mi mw t ol oi ow u nl ni nw =
    let second = text_lines around next (suc old.ifs + ifs_in a) (old.whiles + whiles_in a) b in
    let last = quiet n (command.Label (if_end old.ifs)) ∷ [] in
    let second_is : o'.lines ≡ o.lines ++ text_lines around next (suc old.ifs + ifs_in a) (old.whiles + whiles_in a) b =
    text_at around next (suc old.ifs + ifs_in a) (old.whiles + whiles_in a) b o o' o.lines u refl (oi ∙ t.ifs ∙ ap (λ z. z + ifs_in a) mi) (ow ∙ t.whiles ∙ ap (λ z. z + whiles_in a) mw) in
    let tail : new.lines ≡ m'.lines ++ (into_else n next old.ifs ++ (text_lines around next (suc old.ifs + ifs_in a) (old.whiles + whiles_in a) b ++ quiet n (command.Label (if_end old.ifs)) ∷ [])) =
    nl ∙ ap (λ z. z ++ last) (second_is ∙ ap (λ z. z ++ second) ol) ∙ append_assoc (m'.lines ++ into_else n next old.ifs) second last ∙ append_assoc m'.lines (into_else n next old.ifs) (second ++ last) in
    record {
      lines =
          four old.lines l1 l2 m'.lines new.lines (expression_lines around n c) (into_if n (first_number next b) old.ifs)
          (text_lines around next (suc old.ifs) old.whiles a) (into_else n next old.ifs ++ (second ++ last))
          h1 h2 (text_at around next (suc old.ifs) old.whiles a m m' l2 t ml mi mw) tail
          ∙ ap (λ (z : Bool). old.lines ++ (expression_lines around n c ++ (into_if n (first_number next b) old.ifs ++ (text_lines around next (suc old.ifs) old.whiles a
          ++ (if z then quiet n (command.Label (if_false old.ifs)) ∷ [] else into_else n next old.ifs ++ (second ++ last)))))) (sym e);
      ifs = let x = t.ifs in let y = u.ifs in omega arith;
      whiles = let x = t.whiles in let y = u.whiles in omega arith;
    }

-- a `while`
pub adds_loop : (around : Around) (next n : ℕ) (c : Expression) (s : Text) (old new m m' : Body) (l1 l2 l3 : List Line)
    → l1 ≡ old.lines ++ quiet n (command.Label (while_exp old.whiles)) ∷ [] → l2 ≡ l1 ++ expression_lines around n c → l3 ≡ l2 ++ into_while n next old.whiles
    → m.lines ≡ l3 → m.ifs ≡ old.ifs → m.whiles ≡ suc old.whiles → AddsText around n s m m'
    → new.lines ≡ m'.lines ++ out_of_while n old.whiles → new.ifs ≡ m'.ifs → new.whiles ≡ m'.whiles
    → Adds around next (While n c s) old new
adds_loop around next n c s old new m m' l1 l2 l3 h1 h2 h3 ml mi mw t nl ni nw = record {
  lines =
      four l1 l2 l3 m'.lines new.lines (expression_lines around n c) (into_while n next old.whiles)
      (text_lines around n old.ifs (suc old.whiles) s) (out_of_while n old.whiles)
      h2 h3 (text_at around n old.ifs (suc old.whiles) s m m' l3 t ml mi mw) nl
      ∙ ap (λ z. z ++ (expression_lines around n c ++ (into_while n next old.whiles ++ (text_lines around n old.ifs (suc old.whiles) s ++ out_of_while n old.whiles)))) h1
      ∙ append_assoc old.lines (quiet n (command.Label (while_exp old.whiles)) ∷ []) (expression_lines around n c ++ (into_while n next old.whiles ++ (text_lines around n old.ifs (suc old.whiles) s ++ out_of_while n old.whiles)));
  ifs = let x = t.ifs in omega arith;
  whiles = let x = t.whiles in omega arith;
}

-- another statement
pub adds_plain : (around : Around) (next : ℕ) (s : Statement) (old new : Body) → ifs_of s ≡ 0 → whiles_of s ≡ 0
    → new.lines ≡ old.lines ++ statement_lines around next old.ifs old.whiles s → new.ifs ≡ old.ifs → new.whiles ≡ old.whiles → Adds around next s old new
adds_plain around next s old new e f l i w = record { lines = l; ifs = omega arith; whiles = omega arith }

-- a text of which this is left
pub record GoesOn (around : Around) (next : ℕ) (whole : Text) (old now : Body) (rest : Text) : Type 0 where
  pub lines : now.lines ++ text_lines around next now.ifs now.whiles rest ≡ old.lines ++ text_lines around next old.ifs old.whiles whole
  pub ifs : now.ifs + ifs_in rest ≡ old.ifs + ifs_in whole
  pub whiles : now.whiles + whiles_in rest ≡ old.whiles + whiles_in whole

pub goes_start : (around : Around) (next : ℕ) (whole : Text) (old : Body) → GoesOn around next whole old old whole
goes_start around next whole old = record { lines = refl; ifs = refl; whiles = refl }

pub goes_more : (around : Around) (next : ℕ) (whole : Text) (old now now' : Body) (left : Text) (s : Statement) (rest : Text) (following : ℕ) → left ≡ Next s rest
    → following ≡ first_number next rest → GoesOn around next whole old now left → Adds around following s now now' → GoesOn around next whole old now' rest
goes_more around next whole old now now' left s rest following e f g a = record {
  lines =
      ap (λ z. z ++ text_lines around next now'.ifs now'.whiles rest) (a.lines ∙ ap (λ (z : ℕ). now.lines ++ statement_lines around z now.ifs now.whiles s) f)
      ∙ append_assoc now.lines (statement_lines around (first_number next rest) now.ifs now.whiles s) (text_lines around next now'.ifs now'.whiles rest)
      ∙ ap (λ (z : ℕ). now.lines ++ (statement_lines around (first_number next rest) now.ifs now.whiles s ++ text_lines around next z now'.whiles rest)) a.ifs
      ∙ ap (λ (z : ℕ). now.lines ++ (statement_lines around (first_number next rest) now.ifs now.whiles s ++ text_lines around next (now.ifs + ifs_of s) z rest)) a.whiles
      ∙ ap (λ (z : Text). now.lines ++ text_lines around next now.ifs now.whiles z) (sym e) ∙ g.lines;
  ifs = let x = a.ifs in let y = g.ifs in let z = ap ifs_in e in omega arith;
  whiles = let x = a.whiles in let y = g.whiles in let z = ap whiles_in e in omega arith;
}

pub goes_end : (around : Around) (next : ℕ) (whole : Text) (old now : Body) (left : Text) → left ≡ End → GoesOn around next whole old now left → AddsText around next whole old now
goes_end around next whole old now left e g = record {
  lines = sym (append-nil now.lines) ∙ ap (λ (z : Text). now.lines ++ text_lines around next now.ifs now.whiles z) (sym e) ∙ g.lines;
  ifs = let y = g.ifs in let z = ap ifs_in e in omega arith;
  whiles = let y = g.whiles in let z = ap whiles_in e in omega arith;
}

-- lines one after another
pub two : {A : Type 0} (l0 l1 l2 : List A) (x y : A) → l1 ≡ l0 ++ x ∷ [] → l2 ≡ l1 ++ y ∷ [] → l2 ≡ l0 ++ x ∷ y ∷ []
two l0 l1 l2 x y a b = b ∙ ap (λ z. z ++ y ∷ []) a ∙ append_assoc l0 (x ∷ []) (y ∷ [])

pub three : {A : Type 0} (l0 l1 l2 l3 : List A) (x y z : A) → l1 ≡ l0 ++ x ∷ [] → l2 ≡ l1 ++ y ∷ [] → l3 ≡ l2 ++ z ∷ [] → l3 ≡ l0 ++ x ∷ y ∷ z ∷ []
three l0 l1 l2 l3 x y z a b c = c ∙ ap (λ w. w ++ z ∷ []) (two l0 l1 l2 x y a b) ∙ append_assoc l0 (x ∷ y ∷ []) (z ∷ [])

-- how much a text has in it
abbrev mutual
  pub weight_of : Statement → ℕ
  weight_of (If n o c a b) = suc (suc (weight_in a + weight_in b))
  weight_of (While n c s) = suc (suc (weight_in s))
  weight_of _ = 1

  pub weight_in : Text → ℕ
  weight_in End = 0
  weight_in (Next s rest) = suc (weight_of s + weight_in rest)

-- a statement has less in it than the text that it stands in
pub weight_item : (ss : List TheStatement) (i : ℕ) (s : TheStatement) → i < length ss → s ≡ get_or ss i s → suc (weight_of (the_statement s)) ≤ weight_in (the_block ss)
weight_item [] i s h e = absurd (omega arith)
weight_item (t ∷ ss) zero s h e = let same = ap (λ z. weight_of (the_statement z)) e in omega arith
weight_item (t ∷ ss) (suc i) s h e = let ih = weight_item ss i s (omega arith) e in omega arith
