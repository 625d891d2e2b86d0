-- A front of tokens spells at most one tree, a rule stops with at most one fault, and it doesn't do both.
use Rattle.std.proofs.Common.{◌≡◌, List, Result, Ok, refl, sym, ap, subst}
use Rattle.grammar.specs.declared.Fault.{Fault}
use Rattle.grammar.specs.Rules.{Rule, Tree, Pair, Left, Right, Present, More, Node, Rules, Reads, marked, worded, at_end, both, left, right, passed, taken, ended, again, named, inside, Stops, not_mark, not_word, past, not_end, first, second, in_left, in_right, neither, in_option, in_repeat, later, in_name, not_inside, too_far, in_within, Same}

module _ (T S N V : Type 0) (g : Rules T S N V) where
  pub moved : {r : Rule T S N V} {s s' s2 : S} {ts ts' us : List T} {x : Tree V} → s ≡ s' → ts ≡ ts' → Reads T S N V g s' r ts' x s2 us → Reads T S N V g s r ts x s2 us
  moved {r} {s} {s'} {s2} {ts} {ts'} {us} {x} e f h = subst (λ (z : S × List T). Reads T S N V g z.0 r z.1 x s2 us) (λ i. (sym e i, sym f i)) h

  pub moved_stop : {r : Rule T S N V} {s s' : S} {ts ts' : List T} {f : Fault} → s ≡ s' → ts ≡ ts' → Stops T S N V g s' r ts' f → Stops T S N V g s r ts f
  moved_stop {r} {s} {s'} {ts} {ts'} {f} e d h = subst (λ (z : S × List T). Stops T S N V g z.0 r z.1 f) (λ i. (sym e i, sym d i)) h

  ok_state : {s s' : S} (r : Result S Fault) → r ≡ Ok s → r ≡ Ok s' → s ≡ s'
  ok_state r a b = cc

  pub unique : {s s' s'' : S} {r : Rule T S N V} {ts us us' : List T} {x x' : Tree V} → Reads T S N V g s r ts x s' us → Reads T S N V g s r ts x' s'' us' → Same T S V x s' us x' s'' us'
  unique (marked e) (marked e') = record { tree = refl; state = refl; rest = refl }
  unique (worded e c) (worded e' c') = record { tree = refl; state = ok_state _ c c'; rest = refl }
  unique at_end at_end = record { tree = refl; state = refl; rest = refl }
  unique (both p q) (both p' q') =
      let a = unique p p' in
      let b = unique q (moved a.state a.rest q') in
      record { tree = (λ i. Pair (a.tree i) (b.tree i)); state = b.state; rest = b.rest }
  unique (left e p) (left e' p') = let a = unique p p' in record { tree = ap Left a.tree; state = a.state; rest = a.rest }
  unique (left e p) (right e' f' p') = absurd cc
  unique (right e f p) (left e' p') = absurd cc
  unique (right e f p) (right e' f' p') = let a = unique p p' in record { tree = ap Right a.tree; state = a.state; rest = a.rest }
  unique (passed e) (passed e') = record { tree = refl; state = refl; rest = refl }
  unique (passed e) (taken e' p') = absurd cc
  unique (taken e p) (passed e') = absurd cc
  unique (taken e p) (taken e' p') = let a = unique p p' in record { tree = ap Present a.tree; state = a.state; rest = a.rest }
  unique (ended e) (ended e') = record { tree = refl; state = refl; rest = refl }
  unique (ended e) (again e' p' q') = absurd cc
  unique (again e p q) (ended e') = absurd cc
  unique (again e p q) (again e' p' q') =
      let a = unique p p' in
      let b = unique q (moved a.state a.rest q') in
      record { tree = (λ i. More (a.tree i) (b.tree i)); state = b.state; rest = b.rest }
  unique (named p) (named p') = let a = unique p p' in record { tree = ap Node a.tree; state = a.state; rest = a.rest }
  unique (inside {s = s} {leave = leave} e c p) (inside e' c' p') =
      let a = unique p (moved (ok_state _ c c') refl p') in
      record { tree = ap Node a.tree; state = ap (leave s) a.state; rest = a.rest }

  pub excludes : {s s' : S} {r : Rule T S N V} {ts us : List T} {x : Tree V} {f : Fault} → Reads T S N V g s r ts x s' us → Stops T S N V g s r ts f → ⊥
  excludes (marked e) (not_mark e') = absurd cc
  excludes (worded e c) (not_word e') = absurd cc
  excludes (worded e c) (past e' c') = absurd cc
  excludes at_end h = elim h [ ]
  excludes (both p q) (first h) = excludes p h
  excludes (both p q) (second p' h) = let a = unique p p' in excludes q (moved_stop a.state a.rest h)
  excludes (left e p) (in_left e' h) = excludes p h
  excludes (left e p) (in_right e' f' h) = absurd cc
  excludes (left e p) (neither e' f') = absurd cc
  excludes (right e f p) (in_left e' h) = absurd cc
  excludes (right e f p) (in_right e' f' h) = excludes p h
  excludes (right e f p) (neither e' f') = absurd cc
  excludes (passed e) (in_option e' h) = absurd cc
  excludes (taken e p) (in_option e' h) = excludes p h
  excludes (ended e) (in_repeat e' h) = absurd cc
  excludes (ended e) (later e' p' h) = absurd cc
  excludes (again e p q) (in_repeat e' h) = excludes p h
  excludes (again e p q) (later e' p' h) = let a = unique p p' in excludes q (moved_stop a.state a.rest h)
  excludes (named p) (in_name h) = excludes p h
  excludes (inside e c p) (not_inside e') = absurd cc
  excludes (inside e c p) (too_far e' c') = absurd cc
  excludes (inside e c p) (in_within e' c' h) = excludes p (moved_stop (ok_state _ c c') refl h)

  pub one_fault : {s : S} {r : Rule T S N V} {ts : List T} {f f' : Fault} → Stops T S N V g s r ts f → Stops T S N V g s r ts f' → f ≡ f'
  one_fault (not_mark e) (not_mark e') = refl
  one_fault (not_word e) (not_word e') = refl
  one_fault (not_word e) (past e' c') = absurd cc
  one_fault (past e c) (not_word e') = absurd cc
  one_fault (past e c) (past e' c') = cc
  one_fault not_end not_end = refl
  one_fault (first h) (first h') = one_fault h h'
  one_fault (first h) (second p' h') = absurd (excludes p' h)
  one_fault (second p h) (first h') = absurd (excludes p h')
  one_fault (second p h) (second p' h') = let a = unique p p' in one_fault h (moved_stop a.state a.rest h')
  one_fault (in_left e h) (in_left e' h') = one_fault h h'
  one_fault (in_left e h) (in_right e' f' h') = absurd cc
  one_fault (in_left e h) (neither e' f') = absurd cc
  one_fault (in_right e f h) (in_left e' h') = absurd cc
  one_fault (in_right e f h) (in_right e' f' h') = one_fault h h'
  one_fault (in_right e f h) (neither e' f') = absurd cc
  one_fault (neither e f) (in_left e' h') = absurd cc
  one_fault (neither e f) (in_right e' f' h') = absurd cc
  one_fault (neither e f) (neither e' f') = refl
  one_fault (in_option e h) (in_option e' h') = one_fault h h'
  one_fault (in_repeat e h) (in_repeat e' h') = one_fault h h'
  one_fault (in_repeat e h) (later e' p' h') = absurd (excludes p' h)
  one_fault (later e p h) (in_repeat e' h') = absurd (excludes p h')
  one_fault (later e p h) (later e' p' h') = let a = unique p p' in one_fault h (moved_stop a.state a.rest h')
  one_fault (in_name h) (in_name h') = one_fault h h'
  one_fault (not_inside e) (not_inside e') = refl
  one_fault (not_inside e) (too_far e' c') = absurd cc
  one_fault (not_inside e) (in_within e' c' h') = absurd cc
  one_fault (too_far e c) (not_inside e') = absurd cc
  one_fault (too_far e c) (too_far e' c') = cc
  one_fault (too_far e c) (in_within e' c' h') = absurd cc
  one_fault (in_within e c h) (not_inside e') = absurd cc
  one_fault (in_within e c h) (too_far e' c') = absurd cc
  one_fault (in_within e c h) (in_within e' c' h') = one_fault h (moved_stop (ok_state _ c c') refl h')
