-- The printed form of a tree is that of its parts, one after another.
use Rattle.std.proofs.Common.{◌≡◌, ℕ, zero, suc, ◌+◌, ◌<◌, ◌≤◌, List, [], ◌∷◌, ◌++◌, length, take, get_or, map, append_assoc, refl, sym, ap, subst, ◌∙◌, arith}
use Rattle.std.specs.Prelude.{Bool}
use Rattle.std.specs.List.{flat_map}
use Rattle.std.proofs.lemmas.List.{append-nil, map-append, take_more}
use Rattle.std.proofs.lemmas.Grind.{flat_map-append}
use Rattle.outer_world.specs.declared.pieces.Pieces.{Pieces}
use Rattle.outer_world.specs.declared.sink.Put.{Put}
use Rattle.outer_world.specs.declared.sink.Put.TheVariants as put
use Rattle.outer_world.specs.declared.sink.Sink.{Ghosts}
use Rattle.outer_world.specs.Held.{pending, sink_of}
use Rattle.outer_world.specs.State.{SinkState}
use Rattle.outer_world.specs.Written.{Passes, Puts}
use Rattle.outer_world.proofs.Passing.{Passes-then, Passes-cut, Passes-nothing, Puts-finished, Puts-failed}
use Rattle.grammar.specs.Rules.{Rule, Rules, mark, word, end, seq, choice, option, repeat, name, within, Tree, Skip, Node, Leaf, Pair, Left, Right, Absent, Present, NoMore, More, tree_of_list}
use Rattle.grammar.specs.Leaves.{leaves}
use Rattle.grammar.specs.Printed.{Wrote, Ended, Writes, Finishes, printed_by, set_off, Shows}

-- what is written

failed_at : (a b c : SinkState) (p q z t : List ℕ) → c ≡ b → Passes a p b q t put.Failed → Passes a p c z t put.Failed
failed_at a b c p q z t e h =
    subst (λ (w : SinkState). Passes a p w z t put.Failed) (sym e) (record { n = h.n; went = h.went; rest = λ d. absurd cc; counts = h.counts })

after_failure : (r : Put) (a b c : SinkState) (p q z s t : List ℕ) → Wrote s put.Done a p put.Failed b q → Wrote t put.Failed b q r c z → Wrote (s ++ t) put.Done a p r c z
after_failure put.Done a b c p q z s t x y = absurd (let bad : put.Done ≡ put.Failed = y.0 in let none : ⊥ = cc in none)
after_failure put.Failed a b c p q z s t x y = failed_at a b c p q z (s ++ t) y.1 (Passes-cut a b p q s t x)

wrote_then : (st r r2 : Put) (a b c : SinkState) (p q z s t : List ℕ) → Wrote s st a p r b q → Wrote t r b q r2 c z → Wrote (s ++ t) st a p r2 c z
wrote_then put.Done put.Done r2 a b c p q z s t x y = Passes-then a b c p q z s t r2 x y
wrote_then put.Done put.Failed r2 a b c p q z s t x y = after_failure r2 a b c p q z s t x y
wrote_then put.Failed put.Done r2 a b c p q z s t x y = absurd (let bad : put.Done ≡ put.Failed = x.0 in let none : ⊥ = cc in none)
wrote_then put.Failed put.Failed r2 a b c p q z s t x y = (y.0, y.1 ∙ x.1)

wrote_nothing : (st : Put) (a : SinkState) (p : List ℕ) → Wrote [] st a p st a p
wrote_nothing put.Done a p = Passes-nothing a p
wrote_nothing put.Failed a p = (refl, refl)

ended_then : (r r2 : Put) (a b c : SinkState) (p q t : List ℕ) → p ≡ [] → Wrote t put.Done a p r b q → Ended r b q r2 c → Puts a c t r2
ended_then put.Done r2 a b c p q t e x y = Puts-finished _ _ _ _ _ _ (subst (λ (l : List ℕ). Passes a l b q t put.Done) e x) y
ended_then put.Failed r2 a b c p q t e x y =
    let failed : Puts a b t put.Failed = Puts-failed _ _ _ _ (subst (λ (l : List ℕ). Passes a l b q t put.Failed) e x) in
    subst (λ (z : Put). Puts a c t z) (sym y.0) (subst (λ (w : SinkState). Puts a w t put.Failed) (sym y.1) failed)

module _ {K : Type 0} {told : Ghosts K} where
  pub writes_then : {s t : List ℕ} {u v w : Put} {a b c : Pieces K told} → Writes s u a v b → Writes t v b w c → Writes (s ++ t) u a w c
  writes_then {s} {t} {u} {v} {w} x y = record { same_sink = y.same_sink ∙ x.same_sink; wrote = wrote_then u v w _ _ _ _ _ _ s t x.wrote y.wrote }

  pub writes_is : {s t : List ℕ} {u v : Put} {a b : Pieces K told} → s ≡ t → Writes s u a v b → Writes t u a v b
  writes_is {u = u} {v = v} {a = a} {b = b} e x = subst (λ (l : List ℕ). Writes l u a v b) e x

  pub writes_nothing : {u : Put} {a : Pieces K told} → Writes [] u a u a
  writes_nothing {u} {a} = record { same_sink = refl; wrote = wrote_nothing u _ _ }

  -- all that was put, from where nothing was pending
  pub put_whole : {t : List ℕ} {v w : Put} {a b c : Pieces K told} → pending a ≡ [] → Writes t put.Done a v b → Finishes v b w c
      → Puts (told.state (sink_of a)) (told.state (sink_of c)) t w
  put_whole {t} {v} {w} e x f = ended_then v w _ _ _ _ _ t e x.wrote f.ended

-- the printed form of some trees

module _ {T S N V : Type 0} (g : Rules T S N V) (said : V → List ℕ) where
  text_two : (l m : List V) → flat_map set_off (map said (l ++ m)) ≡ flat_map set_off (map said l) ++ flat_map set_off (map said m)
  text_two l m = ap (flat_map set_off) (map-append said l m) ∙ flat_map-append set_off (map said l) (map said m)

  text_pair : (x y : Tree V) (a b : Rule T S N V) → printed_by g said (Pair x y) (seq a b) ≡ printed_by g said x a ++ printed_by g said y b
  text_pair x y a b = text_two (leaves g x a) (leaves g y b)

  text_more : (x y : Tree V) (a : Rule T S N V) → printed_by g said (More x y) (repeat a) ≡ printed_by g said x a ++ printed_by g said y (repeat a)
  text_more x y a = text_two (leaves g x a) (leaves g y (repeat a))

  -- the printed form of each of these things, one after another
  abbrev texts : {X : Type 0} → (X → Tree V) → Rule T S N V → List X → List ℕ
  texts tree a xs = flat_map (λ x. printed_by g said (tree x) a) xs

  text_listed : {X : Type 0} (tree : X → Tree V) (a : Rule T S N V) (xs : List X) → printed_by g said (tree_of_list tree xs NoMore) (repeat a) ≡ texts tree a xs
  text_listed tree a [] = refl
  text_listed tree a (x ∷ xs) = text_more (tree x) (tree_of_list tree xs NoMore) a ∙ ap (λ (t : List ℕ). printed_by g said (tree x) a ++ t) (text_listed tree a xs)

  -- a whole text, and nothing after it
  pub text_whole : (x : Tree V) (a : Rule T S N V) → printed_by g said (Pair x Skip) (seq a end) ≡ printed_by g said x a
  text_whole x a = text_two (leaves g x a) [] ∙ append-nil (printed_by g said x a)

-- what is shown

module _ {T S N V K : Type 0} {told : Ghosts K} {g : Rules T S N V} {said : V → List ℕ} where
  module _ {u v : Put} {a b : Pieces K told} where
    pub shows_mark : {s : V} {is : T → Bool} → Writes (set_off (said s)) u a v b → Shows g said Skip (mark s is) u a v b
    shows_mark {s} h = record { writes = writes_is (sym (append-nil (set_off (said s)))) h }

    pub shows_word : {s : V} {is : T → Bool} {check : _} {value : T → V} → Writes (set_off (said s)) u a v b → Shows g said (Leaf s) (word is check value) u a v b
    shows_word {s} h = record { writes = writes_is (sym (append-nil (set_off (said s)))) h }

    pub shows_left : {x : Tree V} {m n : Rule T S N V} → Shows g said x m u a v b → Shows g said (Left x) (choice m n) u a v b
    shows_left h = record { writes = h.writes }

    pub shows_right : {x : Tree V} {m n : Rule T S N V} → Shows g said x n u a v b → Shows g said (Right x) (choice m n) u a v b
    shows_right h = record { writes = h.writes }

    pub shows_present : {x : Tree V} {m : Rule T S N V} → Shows g said x m u a v b → Shows g said (Present x) (option m) u a v b
    shows_present h = record { writes = h.writes }

    pub shows_named : {x : Tree V} {n : N} → Shows g said x (g.body n) u a v b → Shows g said (Node x) (name n) u a v b
    shows_named h = record { writes = h.writes }

    pub shows_inside : {x : Tree V} {m : Rule T S N V} {enter : _} {leave : _} → Shows g said x m u a v b → Shows g said (Node x) (within enter leave m) u a v b
    shows_inside h = record { writes = h.writes }

  module _ {u : Put} {a : Pieces K told} where
    pub shows_absent : {m : Rule T S N V} → Shows g said Absent (option m) u a u a
    shows_absent = record { writes = writes_nothing }

    -- a row that has nothing to print
    pub shows_none : {m n : Rule T S N V} → Shows g said NoMore (seq m n) u a u a
    shows_none = record { writes = writes_nothing }

  module _ {u v w : Put} {a b c : Pieces K told} where
    pub shows_both : {x y : Tree V} {m n : Rule T S N V} → Shows g said x m u a v b → Shows g said y n v b w c → Shows g said (Pair x y) (seq m n) u a w c
    shows_both {x} {y} {m} {n} k l = record { writes = writes_is (sym (text_pair g said x y m n)) (writes_then k.writes l.writes) }

-- What a loop over some things has shown after a text.
pub record ShowsEach {T S N V K X : Type 0} {told : Ghosts K} (g : Rules T S N V) (said : V → List ℕ) (before : List ℕ) (tree : X → Tree V) (rule : Rule T S N V) (xs : List X) (u : Put) (a : Pieces K told) (v : Put) (b : Pieces K told) : Type 0 where
  pub writes : Writes (before ++ texts g said tree rule xs) u a v b

take_none : {X : Type 0} (xs : List X) → take 0 xs ≡ []
take_none [] = refl
take_none (x ∷ xs) = refl

take_whole : {X : Type 0} (i : ℕ) (xs : List X) → length xs ≤ i → take i xs ≡ xs
take_whole zero [] h = refl
take_whole zero (x ∷ xs) h = absurd (omega arith)
take_whole (suc i) [] h = refl
take_whole (suc i) (x ∷ xs) h = ap (λ (ys : List _). x ∷ ys) (take_whole i xs (omega arith))

module _ {T S N V K X : Type 0} {told : Ghosts K} {g : Rules T S N V} {said : V → List ℕ} {tree : X → Tree V} {rule : Rule T S N V} {u : Put} {a : Pieces K told} where
  -- it begins after a text
  pub each_after : {before : List ℕ} (xs : List X) {v : Put} {b : Pieces K told} → Writes before u a v b → ShowsEach g said before tree rule (take 0 xs) u a v b
  each_after {before} xs h = record { writes = writes_is (sym (append-nil before) ∙ ap (λ (l : List X). before ++ texts g said tree rule l) (sym (take_none xs))) h }

  pub each_start : (xs : List X) → ShowsEach g said [] tree rule (take 0 xs) u a u a
  each_start xs = each_after xs writes_nothing

  pub each_next : {before : List ℕ} (xs : List X) (i : ℕ) (x : X) {v w : Put} {b c : Pieces K told} → i < length xs → x ≡ get_or xs i x
      → ShowsEach g said before tree rule (take i xs) u a v b → Shows g said (tree x) rule v b w c → ShowsEach g said before tree rule (take (i + 1) xs) u a w c
  each_next {before} xs i x n is k l =
      let one : take (i + 1) xs ≡ take i xs ++ x ∷ [] = take_more xs i x n ∙ ap (λ (y : X). take i xs ++ y ∷ []) (sym is) in
      let here = printed_by g said (tree x) rule in
      let same : (before ++ texts g said tree rule (take i xs)) ++ here ≡ before ++ texts g said tree rule (take (i + 1) xs) =
      append_assoc before (texts g said tree rule (take i xs)) here
      ∙ ap (λ (t : List ℕ). before ++ t) (ap (λ (t : List ℕ). texts g said tree rule (take i xs) ++ t) (sym (append-nil here)) ∙ sym (flat_map-append (λ y. printed_by g said (tree y) rule) (take i xs) (x ∷ [])) ∙ ap (texts g said tree rule) (sym one)) in
      record { writes = writes_is same (writes_then k.writes l.writes) }

  -- all of them
  pub each_done : (xs : List X) {i : ℕ} {v : Put} {b : Pieces K told} → length xs ≤ i → ShowsEach g said [] tree rule (take i xs) u a v b → Shows g said (tree_of_list tree xs NoMore) (repeat rule) u a v b
  each_done xs {i} n k = record { writes = writes_is (ap (texts g said tree rule) (take_whole i xs n) ∙ sym (text_listed g said tree rule xs)) k.writes }

  -- all of them after a first part
  pub each_behind : {x : Tree V} {first : Rule T S N V} (xs : List X) {i : ℕ} {v : Put} {b : Pieces K told} → length xs ≤ i
      → ShowsEach g said (printed_by g said x first) tree rule (take i xs) u a v b → Shows g said (Pair x (tree_of_list tree xs NoMore)) (seq first (repeat rule)) u a v b
  each_behind {x} {first} xs {i} n k =
      let all : texts g said tree rule (take i xs) ≡ printed_by g said (tree_of_list tree xs NoMore) (repeat rule) = ap (texts g said tree rule) (take_whole i xs n) ∙ sym (text_listed g said tree rule xs) in
      record { writes = writes_is (ap (λ (t : List ℕ). printed_by g said x first ++ t) all ∙ sym (text_pair g said x (tree_of_list tree xs NoMore) first (repeat rule))) k.writes }
