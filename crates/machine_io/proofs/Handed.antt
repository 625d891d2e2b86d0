-- Texts that are handed to a buffer, one after another.
use Rattle.std.proofs.Common.{◌≡◌, ◌++◌, [], ℕ, List, append_assoc, subst}
use Rattle.outer_world.specs.State.{SinkState}
use Rattle.outer_world.specs.Written.{Passes, Puts}
use Rattle.outer_world.specs.declared.sink.Put.{Put}
use Rattle.outer_world.specs.declared.sink.Put.TheVariants as put
use Rattle.outer_world.proofs.Passing.{Passes-then, Passes-cut, Passes-nothing, Puts-failed, Puts-finished}

-- nothing, given as an empty text
pub nothing_handed : (a : SinkState) (p t : List ℕ) → t ≡ [] → Passes a p a p t put.Done
nothing_handed a p t e = rw e (Passes-nothing a p)

-- the same text, given in another way
pub handed_as : (a b : SinkState) (p q s t : List ℕ) (answer : Put) → s ≡ t → Passes a p b q s answer → Passes a p b q t answer
handed_as a b p q s t answer e h = rw (← e) h

-- a text after another, together given as a third
pub handed_more : (a b c : SinkState) (p q r s t u : List ℕ) (answer : Put)
    → u ≡ s ++ t → Passes a p b q s put.Done → Passes b q c r t answer → Passes a p c r u answer
handed_more a b c p q r s t u answer e h k = rw e (Passes-then a b c p q r s t answer h k)

-- a failure after some texts, where more was to come
pub handed_cut : (a b c : SinkState) (p q r s t u rest : List ℕ)
    → u ≡ (s ++ t) ++ rest → Passes a p b q s put.Done → Passes b q c r t put.Failed → Passes a p c r u put.Failed
handed_cut a b c p q r s t u rest e h k = rw e (Passes-cut a c p r (s ++ t) rest (Passes-then a b c p q r s t put.Failed h k))

-- a printer with its own buffer, which fails, and one that puts what is pending at its end
pub put_failed : (a b : SinkState) (p q t : List ℕ) → p ≡ [] → Passes a p b q t put.Failed → Puts a b t put.Failed
put_failed a b p q t e h = Puts-failed a b q t (subst (λ z. Passes a z b q t put.Failed) e h)

pub put_finished : (a b c : SinkState) (p q t : List ℕ) (answer : Put) → p ≡ [] → Passes a p b q t put.Done → Puts b c q answer → Puts a c t answer
put_finished a b c p q t answer e h k = Puts-finished a b c q t answer (subst (λ z. Passes a z b q t put.Done) e h) k

-- the first of two texts fails; and of three the first, the second, or none
pub two_cut : (a b : SinkState) (p q s t : List ℕ) → Passes a p b q s put.Failed → Passes a p b q (s ++ t) put.Failed
two_cut a b p q s t h = Passes-cut a b p q s t h

pub three_cut : (a b : SinkState) (p q s t u : List ℕ) → Passes a p b q s put.Failed → Passes a p b q ((s ++ t) ++ u) put.Failed
three_cut a b p q s t u h = rw (append_assoc s t u) (Passes-cut a b p q s (t ++ u) h)

pub three_cut_later : (a b c : SinkState) (p q r s t u : List ℕ) → Passes a p b q s put.Done → Passes b q c r t put.Failed → Passes a p c r ((s ++ t) ++ u) put.Failed
three_cut_later a b c p q r s t u h k = Passes-cut a c p r (s ++ t) u (Passes-then a b c p q r s t put.Failed h k)

pub three_handed : (a b c d : SinkState) (p q r o s t u : List ℕ) (answer : Put)
    → Passes a p b q s put.Done → Passes b q c r t put.Done → Passes c r d o u answer → Passes a p d o ((s ++ t) ++ u) answer
three_handed a b c d p q r o s t u answer h k l = Passes-then a c d p r o (s ++ t) u answer (Passes-then a b c p q r s t put.Done h k) l
