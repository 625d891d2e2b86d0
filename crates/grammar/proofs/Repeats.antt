-- What a loop keeps that reads a repetition.
use Rattle.std.proofs.Common.{◌≡◌, true, false, List, [], ◌∷◌, ◌++◌, refl, sym, ap, subst}
use Rattle.grammar.specs.declared.Fault.{Fault}
use Rattle.grammar.specs.declared.ReadError.{ReadError}
use Rattle.grammar.specs.Reading.{Halt}
use Rattle.grammar.proofs.Steps.{halt}
use Rattle.grammar.specs.Rules.{Rule, repeat, Tree, NoMore, More, Rules, enters, Reads, ended, again, Stops, in_repeat, later, tree_of_list}

pub listed-push : {V X : Type 0} (tree : X → Tree V) (xs : List X) (x : X) (last : Tree V) → tree_of_list tree (xs ++ x ∷ []) last ≡ tree_of_list tree xs (More (tree x) last)
listed-push tree [] x last = refl
listed-push tree (y ∷ xs) x last = ap (More (tree y)) (listed-push tree xs x last)

-- The repetition that began at (s, ts) has come to (s1, us): what is read or stops there is read or stops from the beginning.
pub record Along (T S N V X : Type 0) (g : Rules T S N V) (a : Rule T S N V) (tree : X → Tree V) (s : S) (ts : List T) (xs : List X) (s1 : S) (us : List T) : Type 0 where
  pub reads : {x : Tree V} {s2 : S} {vs : List T} → Reads T S N V g s1 (repeat a) us x s2 vs → Reads T S N V g s (repeat a) ts (tree_of_list tree xs x) s2 vs
  pub stops : {f : Fault} → Stops T S N V g s1 (repeat a) us f → Stops T S N V g s (repeat a) ts f

module _ {T S N V X : Type 0} (g : Rules T S N V) (a : Rule T S N V) (tree : X → Tree V) (s : S) (ts : List T) where
  pub Along-start : (xs : List X) → xs ≡ [] → Along T S N V X g a tree s ts xs s ts
  Along-start xs e = record { reads = λ {x} {s2} {vs} h. subst (λ (l : List X). Reads T S N V g s (repeat a) ts (tree_of_list tree l x) s2 vs) (sym e) h; stops = λ h. h }

  pub Along-more : (xs : List X) (x : X) (s1 s2 : S) (us vs : List T) → Along T S N V X g a tree s ts xs s1 us → enters g a us ≡ true → Reads T S N V g s1 a us (tree x) s2 vs → Along T S N V X g a tree s ts (xs ++ x ∷ []) s2 vs
  Along-more xs x s1 s2 us vs along e p = record {
    reads = λ {x = y} {s2 = s3} {vs = ws} h. subst (λ (z : Tree V). Reads T S N V g s (repeat a) ts z s3 ws) (sym (listed-push tree xs x y)) (along.reads (again e p h));
    stops = λ h. along.stops (later e p h);
  }

  pub Along-ended : (xs : List X) (s1 : S) (us : List T) → Along T S N V X g a tree s ts xs s1 us → enters g a us ≡ false → Reads T S N V g s (repeat a) ts (tree_of_list tree xs NoMore) s1 us
  Along-ended xs s1 us along e = along.reads (ended e)

  pub Along-stopped : (xs : List X) (s1 : S) (us : List T) (f : Fault) → Along T S N V X g a tree s ts xs s1 us → enters g a us ≡ true → Stops T S N V g s1 a us f → Stops T S N V g s (repeat a) ts f
  Along-stopped xs s1 us f along e h = along.stops (in_repeat e h)

  -- so it is also where memory runs out
  pub Along-halts : (xs : List X) (s1 : S) (us : List T) (e : ReadError) → Along T S N V X g a tree s ts xs s1 us → enters g a us ≡ true → Halt (Stops T S N V g s1 a us) e → Halt (Stops T S N V g s (repeat a) ts) e
  Along-halts xs s1 us e along i h = halt (λ f p. along.stops (in_repeat i p)) h
