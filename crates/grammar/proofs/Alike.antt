-- Tokens with the same texts, at whatever places, are read alike. Of a word's token the check and the value are asked only where it passes the test.
use Rattle.std.proofs.Common.{◌≡◌, Bool, true, false, List, [], ◌∷◌, map, Ok, cond, refl, sym, ap, ◌∙◌}
use Rattle.std.specs.Prelude.{◌||◌}
use Rattle.scan_text.specs.declared.Place.{Place}
use Rattle.grammar.specs.Rules.{Rule, mark, word, end, seq, choice, option, repeat, name, within, Tree, Skip, Leaf, Pair, Left, Right, Absent, Present, NoMore, More, Node, Rules, is_empty, begins, enters, here, Reads, marked, worded, at_end, both, left, right, passed, taken, ended, again, named, inside}
use Rattle.grammar.specs.Leaves.{seen_by}

-- a tree of which nothing is dropped
pub seen_whole : {V : Type 0} (x : Tree V) → seen_by (λ v. v) x ≡ x
seen_whole Skip = refl
seen_whole (Node x) = ap Node (seen_whole x)
seen_whole (Leaf v) = refl
seen_whole (Pair x y) = λ i. Pair (seen_whole x i) (seen_whole y i)
seen_whole (Left x) = ap Left (seen_whole x)
seen_whole (Right x) = ap Right (seen_whole x)
seen_whole Absent = refl
seen_whole (Present x) = ap Present (seen_whole x)
seen_whole NoMore = refl
seen_whole (More x y) = λ i. More (seen_whole x i) (seen_whole y i)

-- W texts of tokens, Y what is said but for places
module _ (T S N V W Y : Type 0) (g : Rules T S N V) (text : T → W) (unplaced : V → Y) where
  -- no test, check or value looks at more than a token's text, but for places
  abbrev pub Blind : Rule T S N V → Type 0
  Blind (mark v is) = (t u : T) → text t ≡ text u → is t ≡ is u
  Blind (word is check value) = ((t u : T) → text t ≡ text u → is t ≡ is u) × ((s s' : S) (t u : T) → text t ≡ text u → is t ≡ true → check s t ≡ Ok s' → check s u ≡ Ok s') × ((t u : T) → text t ≡ text u → is t ≡ true → unplaced (value t) ≡ unplaced (value u))
  Blind end = Unit {0}
  Blind (seq a b) = Blind a × Blind b
  Blind (choice a b) = Blind a × Blind b
  Blind (option a) = Blind a
  Blind (repeat a) = Blind a
  Blind (name n) = Unit {0}
  Blind (within enter leave a) = ((s s' : S) (p q : Place) → enter s p ≡ Ok s' → enter s q ≡ Ok s') × Blind a

  pub record Alike (s : S) (r : Rule T S N V) (ts : List T) (x : Tree V) (s' : S) (us : List T) : Type 0 where
    pub tree : Tree V
    pub rest : List T
    pub reads : Reads T S N V g s r ts tree s' rest
    pub same_rest : map text us ≡ map text rest
    pub same_tree : seen_by unplaced x ≡ seen_by unplaced tree

  module _ (opens : (n : N) (t u : T) → text t ≡ text u → g.opens n t ≡ g.opens n u) (all : (n : N) → Blind (g.body n)) where
    begins_same : (r : Rule T S N V) → Blind r → (t u : T) → text t ≡ text u → begins g.opens r t ≡ begins g.opens r u
    begins_same (mark v is) h t u e = h t u e
    begins_same (word is check value) h t u e = h.0 t u e
    begins_same end h t u e = refl
    begins_same (seq a b) h t u e =
        let p = begins_same a h.0 t u e in
        let q = begins_same b h.1 t u e in
        λ i. cond (is_empty a) (p i || q i) (p i)
    begins_same (choice a b) h t u e =
        let p = begins_same a h.0 t u e in
        let q = begins_same b h.1 t u e in
        λ i. p i || q i
    begins_same (option a) h t u e = begins_same a h t u e
    begins_same (repeat a) h t u e = begins_same a h t u e
    begins_same (name n) h t u e = opens n t u e
    begins_same (within enter leave a) h t u e = begins_same a h.1 t u e

    head_is : (t u : T) (ts us : List T) → text t ∷ map text ts ≡ text u ∷ map text us → text t ≡ text u
    head_is t u ts us e = cc

    tail_is : (t u : T) (ts us : List T) → text t ∷ map text ts ≡ text u ∷ map text us → map text ts ≡ map text us
    tail_is t u ts us e = cc

    enters_same : (r : Rule T S N V) → Blind r → (ts us : List T) (b : Bool) → map text ts ≡ map text us → enters g r ts ≡ b → enters g r us ≡ b
    enters_same r h [] [] b e f = f
    enters_same r h [] (u ∷ us) b e f = absurd cc
    enters_same r h (t ∷ ts) [] b e f = absurd cc
    enters_same r h (t ∷ ts) (u ∷ us) b e f = sym (begins_same r h t u (head_is t u ts us e)) ∙ f

    pub read_alike : {s s' : S} {r : Rule T S N V} {ts us : List T} {x : Tree V} → Blind r → Reads T S N V g s r ts x s' us → (vs : List T) → map text ts ≡ map text vs → Alike s r vs x s' us
    read_alike h (marked e) [] d = absurd cc
    read_alike h (marked {t = t} {ts = ts} e) (v ∷ vs) d = record { tree = Skip; rest = vs; reads = marked (sym (h t v (head_is t v ts vs d)) ∙ e); same_rest = tail_is t v ts vs d; same_tree = refl }
    read_alike h (worded e c) [] d = absurd cc
    read_alike h (worded {s = s} {s' = s'} {value = value} {t = t} {ts = ts} e c) (v ∷ vs) d =
        let o = head_is t v ts vs d in
        record { tree = Leaf (value v); rest = vs; reads = worded (sym (h.0 t v o) ∙ e) (h.1 s s' t v o e c); same_rest = tail_is t v ts vs d; same_tree = ap Leaf (h.2 t v o e) }
    read_alike h at_end [] d = record { tree = Skip; rest = []; reads = at_end; same_rest = refl; same_tree = refl }
    read_alike h at_end (v ∷ vs) d = absurd cc
    read_alike h (both p q) vs d =
        let a = read_alike h.0 p vs d in
        let b = read_alike h.1 q a.rest a.same_rest in
        record { tree = Pair a.tree b.tree; rest = b.rest; reads = both a.reads b.reads; same_rest = b.same_rest; same_tree = λ i. Pair (a.same_tree i) (b.same_tree i) }
    read_alike h (left {a = a} {ts = ts} e p) vs d =
        let m = read_alike h.0 p vs d in
        record { tree = Left m.tree; rest = m.rest; reads = left (enters_same a h.0 ts vs true d e) m.reads; same_rest = m.same_rest; same_tree = ap Left m.same_tree }
    read_alike h (right {a = a} {b = b} {ts = ts} e f p) vs d =
        let m = read_alike h.1 p vs d in
        record { tree = Right m.tree; rest = m.rest; reads = right (enters_same a h.0 ts vs false d e) (enters_same b h.1 ts vs true d f) m.reads; same_rest = m.same_rest; same_tree = ap Right m.same_tree }
    read_alike h (passed {a = a} {ts = ts} e) vs d = record { tree = Absent; rest = vs; reads = passed (enters_same a h ts vs false d e); same_rest = d; same_tree = refl }
    read_alike h (taken {a = a} {ts = ts} e p) vs d =
        let m = read_alike h p vs d in
        record { tree = Present m.tree; rest = m.rest; reads = taken (enters_same a h ts vs true d e) m.reads; same_rest = m.same_rest; same_tree = ap Present m.same_tree }
    read_alike h (ended {a = a} {ts = ts} e) vs d = record { tree = NoMore; rest = vs; reads = ended (enters_same a h ts vs false d e); same_rest = d; same_tree = refl }
    read_alike h (again {a = a} {ts = ts} e p q) vs d =
        let m = read_alike h p vs d in
        let n = read_alike h q m.rest m.same_rest in
        record { tree = More m.tree n.tree; rest = n.rest; reads = again (enters_same a h ts vs true d e) m.reads n.reads; same_rest = n.same_rest; same_tree = λ i. More (m.same_tree i) (n.same_tree i) }
    read_alike h (named {n = n} p) vs d =
        let m = read_alike (all n) p vs d in
        record { tree = Node m.tree; rest = m.rest; reads = named m.reads; same_rest = m.same_rest; same_tree = ap Node m.same_tree }
    read_alike h (inside {s = s} {s1 = s1} {leave = leave} {a = a} {ts = ts} e c p) vs d =
        let m = read_alike h.1 p vs d in
        record { tree = Node m.tree; rest = m.rest; reads = inside (enters_same a h.1 ts vs true d e) (h.0 s s1 (here g ts) (here g vs) c) m.reads; same_rest = m.same_rest; same_tree = ap Node m.same_tree }
