-- The statement of a number, its place and its meaning.
use Rattle.std.proofs.Common.{◌≡◌, ◌⊎◌, inl, inr, ℕ, zero, suc, ◌+◌, ◌++◌, Bool, true, false, List, [], ◌∷◌, Option, Some, None, slice_get, get_or, unwrap_or, map, length, length-append, refl, sym, ap, subst, ◌∙◌, arith}
use Rattle.std.proofs.lemmas.List.{length-map, map-append}
use Rattle.std.proofs.lemmas.Option.{get_or_from_slice_get, slice_get-map}
use Rattle.std.specs.Prelude.{option_map}
use Rattle.scan_text.specs.declared.Place.{Place}
use Rattle.jack_tree.specs.Syntax as tree
use Rattle.jack_tree.specs.Syntax.{Statement, Let, If, IfElse, While, Do, Return, Statements, End, Next, Subroutine, Form, Constructor, Function, Method, ClassFile}
use Rattle.jack_tree.specs.Seen.{the_class, the_file, the_subroutine}
use Rattle.jack_tree.specs.declared.tree.Class.{Class}
use Rattle.jack_tree.specs.declared.tree.Subroutine as trees
use Rattle.jack_meaning.specs.Text as meaning
use Rattle.jack_meaning.specs.Meaning.{subroutine_at}
use Rattle.jack_names.specs.declared.scope.Declared.{Declared}
use Rattle.jack_names.specs.declared.scope.Slot.TheVariants as slot
use Rattle.jack_names.specs.declared.scope.Slot.{Slot}
use Rattle.jack_names.specs.Made.{assignment, let_by}
use Rattle.jack_names.specs.Meaning.{size, sizes, statement_meaning, block_meaning, body_meaning, begin_text, let_meaning, expression_meaning, meaning_of, return_added, returns, subroutine_meaning, subroutines_meaning}
use Rattle.jack_names.specs.Numbers.{Standing, field_count, standing, static_count}
use Rattle.jack_debug.specs.Statements.{block_places, no_place, place_of, statement_places}
use Rattle.vm_debug.specs.Places.{place_in, tree_at, trees_of}
use Rattle.vm_debug.specs.Numbers.{HasNumber, first, inside, later, IsWithin, in_if, in_then, in_else, in_while, first_place, IsIn, IsPart, StandsAt, of_text, of_object, of_return, HasTree, NumbersLaw, StandingLaw}

-- all statements, in the order of their numbers
abbrev mutual
  one_flat : Statement → List Statement
  one_flat (Let at x i e) = Let at x i e ∷ []
  one_flat (If at e a) = If at e a ∷ flat a
  one_flat (IfElse at e a b) = IfElse at e a b ∷ (flat a ++ flat b)
  one_flat (While at e a) = While at e a ∷ flat a
  one_flat (Do at c) = Do at c ∷ []
  one_flat (Return at v) = Return at v ∷ []

  flat : Statements → List Statement
  flat End = []
  flat (Next t ts) = one_flat t ++ flat ts

mutual
  one_places : (t : Statement) → statement_places t ≡ map first_place (one_flat t)
  one_places (Let at x i e) = refl
  one_places (If at e a) = ap (λ (x : List Place). at ∷ x) (flat_places a)
  one_places (IfElse at e a b) = ap (λ (x : List Place). at ∷ x) ((λ i. flat_places a i ++ flat_places b i) ∙ sym (map-append first_place (flat a) (flat b)))
  one_places (While at e a) = ap (λ (x : List Place). at ∷ x) (flat_places a)
  one_places (Do at c) = refl
  one_places (Return at v) = refl

  flat_places : (ts : Statements) → block_places ts ≡ map first_place (flat ts)
  flat_places End = refl
  flat_places (Next t ts) = (λ i. one_places t i ++ flat_places ts i) ∙ sym (map-append first_place (one_flat t) (flat ts))

mutual
  one_size : (t : Statement) → length (one_flat t) ≡ size t
  one_size (Let at x i e) = refl
  one_size (If at e a) = let h = flat_size a in omega arith
  one_size (IfElse at e a b) = let g = flat_size a in let h = flat_size b in let both = length-append (flat a) (flat b) in omega arith
  one_size (While at e a) = let h = flat_size a in omega arith
  one_size (Do at c) = refl
  one_size (Return at v) = refl

  flat_size : (ts : Statements) → length (flat ts) ≡ sizes ts
  flat_size End = refl
  flat_size (Next t ts) = let g = one_size t in let h = flat_size ts in let both = length-append (one_flat t) (flat ts) in omega arith

get_left : {A : Type 0} (xs ys : List A) (i : ℕ) (x : A) → slice_get xs i ≡ Some x → slice_get (xs ++ ys) i ≡ Some x
get_left [] ys i x e = absurd (cc e)
get_left (z ∷ xs) ys zero x e = e
get_left (z ∷ xs) ys (suc i) x e = get_left xs ys i x e

get_right : {A : Type 0} (xs ys : List A) (i j : ℕ) → j ≡ length xs + i → slice_get (xs ++ ys) j ≡ slice_get ys i
get_right [] ys i j e = ap (slice_get ys) (let f : j ≡ i = omega arith in f)
get_right (z ∷ xs) ys i zero e = absurd (omega arith)
get_right (z ∷ xs) ys i (suc j) e = get_right xs ys i j (omega arith)

front : (t : Statement) → slice_get (one_flat t) 0 ≡ Some t
front (Let at x i e) = refl
front (If at e a) = refl
front (IfElse at e a b) = refl
front (While at e a) = refl
front (Do at c) = refl
front (Return at v) = refl

-- the index of a number in that order
mutual
  index_of : (n : ℕ) (ts : Statements) (k : ℕ) (u : Statement) → HasNumber n ts k u → (i : ℕ) × (k ≡ n + i) × (slice_get (flat ts) i ≡ Some u)
  index_of n _ _ _ (first _ t ts) = (0, omega arith, get_left (one_flat t) (flat ts) 0 t (front t))
  index_of n _ k u (inside _ t ts _ _ h) =
      let r = index_within n t k u h in
      (r.0, r.1, get_left (one_flat t) (flat ts) r.0 u r.2)
  index_of n _ k u (later _ t ts _ _ h) =
      let r = index_of (n + size t) ts k u h in
      let long = one_size t in
      (size t + r.0, omega (arith, r.1), get_right (one_flat t) (flat ts) r.0 (size t + r.0) (omega arith) ∙ r.2)

  index_within : (n : ℕ) (t : Statement) (k : ℕ) (u : Statement) → IsWithin n t k u → (i : ℕ) × (k ≡ n + i) × (slice_get (one_flat t) i ≡ Some u)
  index_within n _ k u (in_if _ at e a _ _ h) = let r = index_of (n + 1) a k u h in (suc r.0, omega (arith, r.1), r.2)
  index_within n _ k u (in_then _ at e a b _ _ h) = let r = index_of (n + 1) a k u h in (suc r.0, omega (arith, r.1), get_left (flat a) (flat b) r.0 u r.2)
  index_within n _ k u (in_else _ at e a b _ _ h) =
      let r = index_of (n + 1 + sizes a) b k u h in
      let long = flat_size a in
      (suc (sizes a + r.0), omega (arith, r.1), get_right (flat a) (flat b) r.0 (sizes a + r.0) (omega arith) ∙ r.2)
  index_within n _ k u (in_while _ at e a _ _ h) = let r = index_of (n + 1) a k u h in (suc r.0, omega (arith, r.1), r.2)

some_is : {A : Type 0} {a b : A} → Some a ≡ Some b → a ≡ b
some_is {A} {a} {b} e = cc e

one_only : (n : ℕ) (ts : Statements) (k : ℕ) (u v : Statement) → HasNumber n ts k u → HasNumber n ts k v → u ≡ v
one_only n ts k u v g h =
    let a = index_of n ts k u g in
    let b = index_of n ts k v h in
    let same : a.0 ≡ b.0 = omega (arith, a.1, b.1) in
    some_is (sym a.2 ∙ ap (slice_get (flat ts)) same ∙ b.2)

place_at : (t : Subroutine) (k : ℕ) (u : Statement) → HasNumber 1 t.statements k u → place_of t k ≡ first_place u
place_at t k u h =
    let r = index_of 1 t.statements k u h in
    let next : k ≡ suc r.0 = omega (arith, r.1) in
    let there : slice_get (block_places t.statements) r.0 ≡ Some (first_place u) = ap (λ (ps : List Place). slice_get ps r.0) (flat_places t.statements) ∙ slice_get-map first_place (flat t.statements) r.0 ∙ ap (option_map first_place) r.2 in
    ap (place_of t) next ∙ ap (λ (o : Option Place). unwrap_or o no_place) (get_left (block_places t.statements) (t.close ∷ []) r.0 (first_place u) there)

last_place : (t : Subroutine) → place_of t (1 + sizes t.statements) ≡ t.close
last_place t =
    let next : 1 + sizes t.statements ≡ suc (sizes t.statements) = omega arith in
    let long : length (block_places t.statements) ≡ sizes t.statements = ap length (flat_places t.statements) ∙ length-map (flat t.statements) first_place ∙ flat_size t.statements in
    ap (place_of t) next ∙ ap (λ (o : Option Place). unwrap_or o no_place) (get_right (block_places t.statements) (t.close ∷ []) 0 (sizes t.statements) (omega arith))

-- numbers of meanings
assigned_number : (v : Slot) (n : ℕ) (e : meaning.Expression) → meaning.number_of (assignment v n e) ≡ n
assigned_number (slot.Argument k) n e = refl
assigned_number (slot.Local k) n e = refl
assigned_number (slot.Field k) n e = refl
assigned_number (slot.Static k) n e = refl

by_number : (v : Option Declared) (n : ℕ) (e : meaning.Expression) → meaning.number_of (let_by v n e) ≡ n
by_number None n e = refl
by_number (Some v) n e = assigned_number v.slot n e

let_number : (s : Standing) (n : ℕ) (x : tree.Name) (i : Option tree.Expression) (e : tree.Expression) → meaning.number_of (let_meaning s n x i e) ≡ n
let_number s n x None e = by_number (s.variable x.text) n (expression_meaning s e)
let_number s n x (Some i) e = refl

number_is : (s : Standing) (k : ℕ) (u : Statement) → meaning.number_of (statement_meaning s k u) ≡ k
number_is s k (Let at x i e) = let_number s k x i e
number_is s k (If at e a) = refl
number_is s k (IfElse at e a b) = refl
number_is s k (While at e a) = refl
number_is s k (Do at c) = refl
number_is s k (Return at v) = refl

-- what a statement means is in what all mean
mutual
  in_all : (s : Standing) (n : ℕ) (ts : Statements) (k : ℕ) (u : Statement) → HasNumber n ts k u → IsIn (block_meaning s n ts) (statement_meaning s k u)
  in_all s n _ _ _ (first _ t ts) = inl refl
  in_all s n _ k u (inside _ t ts _ _ h) = inr (inl (in_one s n t k u h))
  in_all s n _ k u (later _ t ts _ _ h) = inr (inr (in_all s (n + size t) ts k u h))

  in_one : (s : Standing) (n : ℕ) (t : Statement) (k : ℕ) (u : Statement) → IsWithin n t k u → IsPart (statement_meaning s n t) (statement_meaning s k u)
  in_one s n _ k u (in_if _ at e a _ _ h) = inl (in_all s (n + 1) a k u h)
  in_one s n _ k u (in_then _ at e a b _ _ h) = inl (in_all s (n + 1) a k u h)
  in_one s n _ k u (in_else _ at e a b _ _ h) = inr (in_all s (n + 1 + sizes a) b k u h)
  in_one s n _ k u (in_while _ at e a _ _ h) = in_all s (n + 1) a k u h

-- and nothing else is there
assigned_part : (v : Slot) (n : ℕ) (e : meaning.Expression) (w : meaning.Statement) → IsPart (assignment v n e) w → ⊥
assigned_part (slot.Argument k) n e w h = h
assigned_part (slot.Local k) n e w h = h
assigned_part (slot.Field k) n e w h = h
assigned_part (slot.Static k) n e w h = h

by_part : (v : Option Declared) (n : ℕ) (e : meaning.Expression) (w : meaning.Statement) → IsPart (let_by v n e) w → ⊥
by_part None n e w h = h
by_part (Some v) n e w h = assigned_part v.slot n e w h

let_part : (s : Standing) (n : ℕ) (x : tree.Name) (i : Option tree.Expression) (e : tree.Expression) (w : meaning.Statement) → IsPart (let_meaning s n x i e) w → ⊥
let_part s n x None e w h = by_part (s.variable x.text) n (expression_meaning s e) w h
let_part s n x (Some i) e w h = h

-- the statement of the text that one of the meaning comes from
record ComesFrom (s : Standing) (n : ℕ) (ts : Statements) (w : meaning.Statement) : Type 0 where
  k : ℕ
  u : Statement
  has : HasNumber n ts k u
  is : w ≡ statement_meaning s k u

record ComesWithin (s : Standing) (n : ℕ) (t : Statement) (w : meaning.Statement) : Type 0 where
  k : ℕ
  u : Statement
  has : IsWithin n t k u
  is : w ≡ statement_meaning s k u

mutual
  from_all : (s : Standing) (n : ℕ) (ts : Statements) (w : meaning.Statement) → IsIn (block_meaning s n ts) w → ComesFrom s n ts w
  from_all s n End w h = absurd h
  from_all s n (Next t ts) w (inl e) = record { k = n; u = t; has = first n t ts; is = e }
  from_all s n (Next t ts) w (inr (inl h)) = let r = from_one s n t w h in record { k = r.k; u = r.u; has = inside n t ts r.k r.u r.has; is = r.is }
  from_all s n (Next t ts) w (inr (inr h)) = let r = from_all s (n + size t) ts w h in record { k = r.k; u = r.u; has = later n t ts r.k r.u r.has; is = r.is }

  from_one : (s : Standing) (n : ℕ) (t : Statement) (w : meaning.Statement) → IsPart (statement_meaning s n t) w → ComesWithin s n t w
  from_one s n (Let at x i e) w h = absurd (let_part s n x i e w h)
  from_one s n (If at e a) w (inl h) = let r = from_all s (n + 1) a w h in record { k = r.k; u = r.u; has = in_if n at e a r.k r.u r.has; is = r.is }
  from_one s n (If at e a) w (inr h) = absurd h
  from_one s n (IfElse at e a b) w (inl h) = let r = from_all s (n + 1) a w h in record { k = r.k; u = r.u; has = in_then n at e a b r.k r.u r.has; is = r.is }
  from_one s n (IfElse at e a b) w (inr h) = let r = from_all s (n + 1 + sizes a) b w h in record { k = r.k; u = r.u; has = in_else n at e a b r.k r.u r.has; is = r.is }
  from_one s n (While at e a) w h = let r = from_all s (n + 1) a w h in record { k = r.k; u = r.u; has = in_while n at e a r.k r.u r.has; is = r.is }
  from_one s n (Do at c) w h = absurd h
  from_one s n (Return at v) w h = absurd h

in_joined : (a b : meaning.Text) (w : meaning.Statement) → IsIn (meaning.joined_text a b) w → IsIn a w ⊎ IsIn b w
in_joined meaning.End b w h = inr h
in_joined (meaning.Next s rest) b w (inl e) = inl (inl e)
in_joined (meaning.Next s rest) b w (inr (inl h)) = inl (inr (inl h))
in_joined (meaning.Next s rest) b w (inr (inr h)) = elim (in_joined rest b w h) [ inl g ↦ inl (inr (inr g)) | inr g ↦ inr g ]

module _ (s : Standing) (t : Subroutine) where
  abbrev Stands : meaning.Statement → Type 0
  Stands w = StandsAt s t w (place_of t (meaning.number_of w))

  text_stands : (w : meaning.Statement) → IsIn (block_meaning s 1 t.statements) w → Stands w
  text_stands w h =
      let r = from_all s 1 t.statements w h in
      let place : first_place r.u ≡ place_of t (meaning.number_of (statement_meaning s r.k r.u)) = sym (place_at t r.k r.u r.has) ∙ ap (place_of t) (sym (number_is s r.k r.u)) in
      subst Stands (sym r.is) (subst (StandsAt s t (statement_meaning s r.k r.u)) place (of_text r.k r.u r.has))

  added_stands : (b : Bool) → returns t.statements ≡ b → (w : meaning.Statement) → IsIn (return_added b (1 + sizes t.statements)) w → Stands w
  added_stands true e w h = absurd h
  added_stands false e w (inl g) = subst Stands (sym g) (subst (StandsAt s t (meaning.Return (1 + sizes t.statements) (meaning.Literal 0))) (sym (last_place t)) (of_return (meaning.Literal 0) e))
  added_stands false e w (inr (inl h)) = absurd h
  added_stands false e w (inr (inr h)) = absurd h

  rest_stands : (w : meaning.Statement) → IsIn (meaning.joined_text (block_meaning s 1 t.statements) (return_added (returns t.statements) (1 + sizes t.statements))) w → Stands w
  rest_stands w h = elim (in_joined (block_meaning s 1 t.statements) (return_added (returns t.statements) (1 + sizes t.statements)) w h) [ inl g ↦ text_stands w g | inr g ↦ added_stands (returns t.statements) refl w g ]

  begun_stands : (f : Form) (fields : ℕ) (rest : meaning.Text) → t.form ≡ f → (w : meaning.Statement) → ((v : meaning.Statement) → IsIn rest v → Stands v) → IsIn (begin_text s f fields rest) w → Stands w
  begun_stands Constructor fields rest e w more (inl g) = subst Stands (sym g) (of_object _ e)
  begun_stands Constructor fields rest e w more (inr (inl h)) = absurd h
  begun_stands Constructor fields rest e w more (inr (inr h)) = more w h
  begun_stands Function fields rest e w more h = more w h
  begun_stands Method fields rest e w more h = more w h

  body_stands : (fields : ℕ) (w : meaning.Statement) → IsIn (body_meaning s fields t) w → Stands w
  body_stands fields w h = begun_stands t.form fields (meaning.joined_text (block_meaning s 1 t.statements) (return_added (returns t.statements) (1 + sizes t.statements))) refl w rest_stands h

pub numbers_law : NumbersLaw
numbers_law = record {
  one = one_only;
  place = place_at;
  number = number_is;
  meant = in_all;
  body = λ s fields t w h. body_stands s t fields w h;
}

-- what the trees of a program's subroutines mean
record Means (t : trees.Subroutine) (m : meaning.Subroutine) : Type 0 where
  standing : Standing
  fields : ℕ
  is : m ≡ subroutine_meaning standing fields (the_subroutine t)

abbrev AllMean : List trees.Subroutine → List meaning.Subroutine → Type 0
AllMean [] [] = Unit {0}
AllMean (t ∷ ts) (m ∷ ms) = Means t m × AllMean ts ms
AllMean _ _ = ⊥

both_mean : (ts us : List trees.Subroutine) (ms ns : List meaning.Subroutine) → AllMean ts ms → AllMean us ns → AllMean (ts ++ us) (ms ++ ns)
both_mean [] us [] ns g h = h
both_mean [] us (m ∷ ms) ns g h = absurd g
both_mean (t ∷ ts) us [] ns g h = absurd g
both_mean (t ∷ ts) us (m ∷ ms) ns g h = (g.0, both_mean ts us ms ns g.1 h)

module _ (all : List ClassFile) where
  class_means : (class statics : ℕ) (c : Class) (ts : List trees.Subroutine)
      → AllMean ts (map (λ t. subroutine_meaning (standing all class statics (the_class c) t) (field_count (the_class c).variables) t) (map the_subroutine ts))
  class_means class statics c [] = tt
  class_means class statics c (t ∷ ts) = (
    record { standing = standing all class statics (the_class c) (the_subroutine t); fields = field_count (the_class c).variables; is = refl },
    class_means class statics c ts,
  )

  all_means : (class statics : ℕ) (cs : List Class) → AllMean (trees_of cs) (subroutines_meaning all class statics (map the_file cs))
  all_means class statics [] = tt
  all_means class statics (c ∷ cs) =
      both_mean c.subroutines.items (trees_of cs) _ _ (class_means class statics c c.subroutines.items) (all_means (class + 1) (statics + static_count (the_class c).variables) cs)

mean_at : (ts : List trees.Subroutine) (ms : List meaning.Subroutine) → AllMean ts ms → (g : ℕ) (m : meaning.Subroutine) → slice_get ms g ≡ Some m → (t : trees.Subroutine) × (slice_get ts g ≡ Some t) × Means t m
mean_at [] [] h g m e = absurd (cc e)
mean_at [] (n ∷ ms) h g m e = absurd h
mean_at (t ∷ ts) [] h g m e = absurd h
mean_at (t ∷ ts) (n ∷ ms) h zero m e = (t, refl, subst (Means t) (some_is e) h.0)
mean_at (t ∷ ts) (n ∷ ms) h (suc g) m e = mean_at ts ms h.1 g m e

-- what stands where there is no subroutine
abbrev nothing : meaning.Subroutine
nothing = record { kind = meaning.Function; class = 0; arguments = 0; locals = 0; body = meaning.End }

get_none : (ms : List meaning.Subroutine) (g : ℕ) (d : meaning.Subroutine) → slice_get ms g ≡ None → get_or ms g d ≡ d
get_none [] g d e = refl
get_none (m ∷ ms) zero d e = absurd (cc e)
get_none (m ∷ ms) (suc g) d e = get_none ms g d e

module _ (classes : List Class) (program : meaning.Program) (is : program ≡ meaning_of (map the_file classes)) where
  abbrev meant : List meaning.Subroutine
  meant = subroutines_meaning (map the_file classes) 0 0 (map the_file classes)

  stands_at : (g k : ℕ) (w : meaning.Statement) → IsIn (subroutine_at program.subroutines g).body w → meaning.number_of w ≡ k
      → (h : HasTree classes program g) × StandsAt h.standing (the_subroutine h.tree) w (place_in (tree_at (trees_of classes) g) k)
  stands_at zero k w h e = absurd (subst (λ (p : meaning.Program). IsIn (subroutine_at p.subroutines 0).body w) is h)
  stands_at (suc n) k w h e = by_meaning (slice_get meant n) refl
    where
      by_meaning : (o : Option meaning.Subroutine) → slice_get meant n ≡ o
          → (h : HasTree classes program (suc n)) × StandsAt h.standing (the_subroutine h.tree) w (place_in (tree_at (trees_of classes) (suc n)) k)
      by_meaning None d =
          let gone = subst (λ (p : meaning.Program). IsIn (subroutine_at p.subroutines (suc n)).body w) is h in
          absurd (subst (λ (m : meaning.Subroutine). IsIn m.body w) (get_none meant n nothing d) gone)
      by_meaning (Some m) d =
          let r = mean_at (trees_of classes) meant (all_means (map the_file classes) 0 0 classes) n m d in
          let t = the_subroutine r.0 in
          let sub : subroutine_at program.subroutines (suc n) ≡ m = ap (λ (p : meaning.Program). subroutine_at p.subroutines (suc n)) is ∙ get_or_from_slice_get meant n m nothing d in
          let means : subroutine_at program.subroutines (suc n) ≡ subroutine_meaning r.2.standing r.2.fields t = sub ∙ r.2.is in
          let inside : IsIn (body_meaning r.2.standing r.2.fields t) w = subst (λ (x : meaning.Subroutine). IsIn x.body w) means h in
          let place : place_of t (meaning.number_of w) ≡ place_in (tree_at (trees_of classes) (suc n)) k = ap (place_of t) e ∙ ap (λ o. place_in o k) (sym r.1) in (
            record { tree = r.0; there = r.1; standing = r.2.standing; fields = r.2.fields; means = means },
            subst (StandsAt r.2.standing t w) place (body_stands r.2.standing t r.2.fields w inside),
          )

pub standing_law : StandingLaw
standing_law own system program is r w h e =
    stands_at (own ++ system) program (is ∙ ap meaning_of (sym (map-append the_file own system))) r.point.sub r.point.number w h e
