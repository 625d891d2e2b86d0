-- A text spells at most one tree, has at most one first fault, and not both.
use Rattle.std.proofs.Common.{◌≡◌, List, Result, Ok, Err, refl, sym, ap, ◌∙◌, inl, inr}
use Rattle.std.specs.Prelude.{IfOk, IfErr}
use Rattle.grammar.specs.declared.Fault.{Fault}
use Rattle.grammar.specs.declared.ReadError.{ReadError}
use Rattle.grammar.specs.declared.ReadError.TheVariants as errors
use Rattle.grammar.specs.Rules.{Rule, Tree, Rules, Stops}
use Rattle.grammar.specs.Reading.{Because, Halt, memory, fault, ParsesAll}
use Rattle.grammar.specs.Texts.{Spelled, Refused, OneReading}
use Rattle.grammar.proofs.Laws.{moved, moved_stop, unique, excludes, one_fault}

module _ {T S N V : Type 0} (g : Rules T S N V) (rule : Rule T S N V) (s : S) (cut : Result (List T) Fault) where
  same_tokens : (ts us : List T) → cut ≡ Ok ts → cut ≡ Ok us → ts ≡ us
  same_tokens ts us a b = cc

  pub one_tree : (x y : Tree V) → Spelled g rule s cut x → Spelled g rule s cut y → x ≡ y
  one_tree x y a b = (unique T S N V g a.3 (moved T S N V g refl (same_tokens a.0 b.0 a.2 b.2) b.3)).tree

  pub not_both : (x : Tree V) (f : Fault) → Spelled g rule s cut x → Refused g rule s cut f → ⊥
  not_both x f a (inl e) = absurd (cc (a.2, e))
  not_both x f a (inr r) = excludes T S N V g a.3 (moved_stop T S N V g refl (same_tokens a.0 r.0 a.2 r.1) r.2)

  pub first_fault : (f h : Fault) → Refused g rule s cut f → Refused g rule s cut h → f ≡ h
  first_fault f h (inl a) (inl b) = cc
  first_fault f h (inl a) (inr r) = absurd (cc (a, r.1))
  first_fault f h (inr r) (inl b) = absurd (cc (b, r.1))
  first_fault f h (inr r) (inr q) = one_fault T S N V g r.2 (moved_stop T S N V g refl (same_tokens r.0 q.0 r.1 q.1) q.2)

  pub one_reading : OneReading (Tree V) (Spelled g rule s cut) (Refused g rule s cut)
  one_reading = record { one = one_tree; one_fault = first_fault; not_both = not_both }

  -- a fault of the tokens
  pub not_cut : (e : ReadError) → Because (λ f. cut ≡ Err f) e → Halt (Refused g rule s cut) e
  not_cut errors.Memory b = memory
  not_cut (errors.Fault f) b = fault (inl b)

  pub not_read : (ts : List T) (e : ReadError) → cut ≡ Ok ts → Halt (Stops T S N V g s rule ts) e → Halt (Refused g rule s cut) e
  not_read ts errors.Memory b h = memory
  not_read ts (errors.Fault f) b (fault h) = fault (inr (ts, b, h))

module _ {T S N V X : Type 0} (g : Rules T S N V) (rule : Rule T S N V) (s : S) (cut : Result (List T) Fault) (tree : X → Tree V) (after : X → S) where
  pub all_spelled : (ts us : List T) (r : Result X ReadError) → cut ≡ Ok us → ts ≡ us → ParsesAll g rule tree after s ts r → IfOk r (λ x. Spelled g rule s cut (tree x))
  all_spelled ts us (Ok x) e d h = (ts, after x, e ∙ ap Ok (sym d), h)
  all_spelled ts us (Err f) e d h = tt

  pub all_refused : (ts us : List T) (r : Result X ReadError) → cut ≡ Ok us → ts ≡ us → ParsesAll g rule tree after s ts r → IfErr r (Halt (Refused g rule s cut))
  all_refused ts us (Ok x) e d h = tt
  all_refused ts us (Err f) e d h = not_read g rule s cut ts f (e ∙ ap Ok (sym d)) h
