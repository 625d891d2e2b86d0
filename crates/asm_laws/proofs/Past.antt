-- Uses of a label after all words.
use Rattle.std.proofs.Common.{◌≡◌, ℕ, ◌++◌, Bool, true, false, List, [], ◌∷◌, Option, Some, None, refl, sym, ap, subst, ◌∙◌, inl, inr, if◌then◌else◌}
use Rattle.std.proofs.lemmas.Bool.Decides.{Decides-eqb}
use Rattle.scan_text.specs.declared.Place.{Place}
use Rattle.hack_isa.specs.Machine.{image_words}
use Rattle.hack_asm.specs.Program.{Table, entry_of, first_past, is_past, past_use, used_symbol}
use Rattle.hack_asm.specs.Trees.{Line, Symbol, label, address, compute, number, symbol}
use Rattle.asm_laws.specs.Symbols.{StandsBehind, use_line}
use Rattle.asm_laws.specs.Assembly.{NoneIsPast}
use Rattle.outer_world.proofs.Splits.{first, same, second, splits}
use Rattle.asm_laws.proofs.Lists.{at}
use Rattle.asm_laws.proofs.Labels.{Entered}

-- ---- lines that use a symbol

abbrev pub IsUse : List ℕ → Line → Type 0
IsUse name l = (p : Place) × (l ≡ use_line name p)

abbrev use_name : Line → List ℕ
use_name (Some (address (symbol s))) = s.name
use_name _ = []

pub same_use : (n m : List ℕ) (p q : Place) → use_line n p ≡ use_line m q → n ≡ m
same_use n m p q e = ap use_name e

pub used_is : (l : Line) (s : Symbol) → used_symbol l ≡ Some s → l ≡ use_line s.name s.place
used_is None s e = absurd (let bad : ⊥ = cc in bad)
used_is (Some (label x)) s e = absurd (let bad : ⊥ = cc in bad)
used_is (Some (compute c)) s e = absurd (let bad : ⊥ = cc in bad)
used_is (Some (address (number n))) s e = absurd (let bad : ⊥ = cc in bad)
used_is (Some (address (symbol x))) s e = let h : x ≡ s = cc in ap (λ (y : Symbol). use_line y.name y.place) h

no_symbol : (o : Option Symbol) (s : Symbol) → o ≡ None → o ≡ Some s → ⊥
no_symbol o s e f = cc

pub unused : (l : Line) (name : List ℕ) → used_symbol l ≡ None → IsUse name l → ⊥
unused l name e h = no_symbol (used_symbol l) (record { name = name; place = h.0 }) e (ap used_symbol h.1)

pub use_is : (l : Line) (s : Symbol) (name : List ℕ) → used_symbol l ≡ Some s → IsUse name l → name ≡ s.name
use_is l s name e h = same_use name s.name h.0 s.place (sym h.1 ∙ used_is l s e)

-- ---- the first use

pub data PastUse (program some : List Line) : Option Place → Type 0 where
  no_use : NoneIsPast program some → PastUse program some None
  a_use : (before behind : List Line) (name : List ℕ) (p : Place) → some ≡ before ++ use_line name p ∷ behind → StandsBehind program name image_words → NoneIsPast program before → PastUse program some (Some p)

module _ (program : List Line) (t : Table) (h : Entered program t) where
  none_with : (l : Line) (ls : List Line) → ((name : List ℕ) → IsUse name l → StandsBehind program name image_words → ⊥) → NoneIsPast program ls → NoneIsPast program (l ∷ ls)
  none_with l ls never rest name (inl u) s = never name u s
  none_with l ls never rest name (inr u) s = rest name u s

  later : (l : Line) (ls : List Line) (o : Option Place) → ((name : List ℕ) → IsUse name l → StandsBehind program name image_words → ⊥) → PastUse program ls o → PastUse program (l ∷ ls) o
  later l ls o never (no_use k) = no_use (none_with l ls never k)
  later l ls o never (a_use before behind name p here s k) = a_use (l ∷ before) behind name p (ap (λ (z : List Line). l ∷ z) here) s (none_with l before never k)

  not_past : (name : List ℕ) → is_past (entry_of t name) ≡ false → StandsBehind program name image_words → ⊥
  not_past name e s = differ (is_past (entry_of t name)) e (ap is_past (h.has name image_words s))
    where
      differ : (b : Bool) → b ≡ false → b ≡ true → ⊥
      differ b f g = cc

  is_behind : (name : List ℕ) → is_past (entry_of t name) ≡ true → StandsBehind program name image_words
  is_behind name e = by (entry_of t name) refl e
    where
      by : (o : Option ℕ) → entry_of t name ≡ o → is_past o ≡ true → StandsBehind program name image_words
      by None there f = absurd (let bad : ⊥ = cc in bad)
      by (Some n) there f = h.is name image_words (there ∙ ap Some ((Decides-eqb n image_words).0 f))

  module _ (l : Line) (ls : List Line) (rest : PastUse program ls (first_past t ls)) where
    tested : (x : Symbol) → used_symbol l ≡ Some x → (b : Bool) → is_past (entry_of t x.name) ≡ b → PastUse program (l ∷ ls) (if b then Some x.place else first_past t ls)
    tested x e true f = a_use [] ls x.name x.place (ap (λ (z : Line). z ∷ ls) (used_is l x e)) (is_behind x.name f) (λ name u s. u)
    tested x e false f = later l ls (first_past t ls) (λ name u s. not_past x.name f (subst (λ (n : List ℕ). StandsBehind program n image_words) (use_is l x name e u) s)) rest

    step : (o : Option Symbol) → used_symbol l ≡ o → PastUse program (l ∷ ls) (past_use t o (first_past t ls))
    step None e = later l ls (first_past t ls) (λ name u s. unused l name e u) rest
    step (Some x) e = tested x e (is_past (entry_of t x.name)) refl

  pub past_uses : (some : List Line) → PastUse program some (first_past t some)
  past_uses [] = no_use (λ name u s. u)
  past_uses (l ∷ ls) = step l ls (past_uses ls) (used_symbol l) refl

  -- and nothing else
  pub none_past : NoneIsPast program program → first_past t program ≡ None
  none_past none = by (first_past t program) (past_uses program)
    where
      by : (o : Option Place) → PastUse program program o → o ≡ None
      by None k = refl
      by (Some q) (a_use before behind name p here s k) = absurd (none name (at (IsUse name) program before behind (use_line name p) here (p, refl)) s)

  pub one_past : (before behind : List Line) (name : List ℕ) (p : Place) → program ≡ before ++ use_line name p ∷ behind → StandsBehind program name image_words → NoneIsPast program before → first_past t program ≡ Some p
  one_past before behind name p here s none = by (first_past t program) (past_uses program)
    where
      place_used : Line → Place
      place_used (Some (address (symbol x))) = x.place
      place_used _ = p

      by : (o : Option Place) → PastUse program program o → o ≡ Some p
      by None (no_use k) = absurd (k name (at (IsUse name) program before behind (use_line name p) here (p, refl)) s)
      by (Some r) (a_use b c m q here' s' none') = elim (splits b c before behind (use_line m q) (use_line name p) (sym here' ∙ here)) [
        | same e f ↦ ap Some (ap place_used f)
        | first d e ↦ absurd (none m (at (IsUse m) before b d (use_line m q) e (q, refl)) s')
        | second d e ↦ absurd (none' name (at (IsUse name) b before d (use_line name p) e (p, refl)) s)
      ]
