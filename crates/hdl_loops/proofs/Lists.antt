-- Lists that are gathered item by item, and what is in them.
use Rattle.std.proofs.Common.{◌≡◌, ℕ, zero, suc, ◌+◌, ◌<◌, ◌⊎◌, inl, inr, List, [], ◌∷◌, ◌++◌, length, map, get_or, Some, refl, sym, ap, subst, ◌∙◌, arith, append_assoc, append-nil, add-one}
use Rattle.std.proofs.lemmas.Option.{get_or_from_slice_get, slice_get_read}
use Rattle.std.specs.Prelude.{slice_get}
use Rattle.hdl_loops.specs.Inner.Ties.{In, gather, gather_first}

pub in_left : {A : Type 0} (x : A) (xs ys : List A) → In x xs → In x (xs ++ ys)
in_left x [] ys h = absurd h
in_left x (z ∷ zs) ys (inl e) = inl e
in_left x (z ∷ zs) ys (inr h) = inr (in_left x zs ys h)

pub in_right : {A : Type 0} (x : A) (xs ys : List A) → In x ys → In x (xs ++ ys)
in_right x [] ys h = h
in_right x (z ∷ zs) ys h = inr (in_right x zs ys h)

in_more : {A : Type 0} (x z : A) (zs ys : List A) → (In x zs) ⊎ (In x ys) → (In x (z ∷ zs)) ⊎ (In x ys)
in_more x z zs ys (inl h) = inl (inr h)
in_more x z zs ys (inr h) = inr h

pub in_either : {A : Type 0} (x : A) (xs ys : List A) → In x (xs ++ ys) → (In x xs) ⊎ (In x ys)
in_either x [] ys h = inr h
in_either x (z ∷ zs) ys (inl e) = inl (inl e)
in_either x (z ∷ zs) ys (inr h) = in_more x z zs ys (in_either x zs ys h)

pub in_gather : {A B : Type 0} (f : A → List B) (xs : List A) (x : A) (y : B) → In x xs → In y (f x) → In y (gather f xs)
in_gather f [] x y h g = absurd h
in_gather f (z ∷ zs) x y (inl e) g = in_left y (f z) (gather f zs) (subst (λ v. In y (f v)) (sym e) g)
in_gather f (z ∷ zs) x y (inr h) g = in_right y (f z) (gather f zs) (in_gather f zs x y h g)

pub record Gathered {A B : Type 0} (f : A → List B) (xs : List A) (y : B) : Type 0 where
  pub item : A
  pub there : In item xs
  pub made : In y (f item)

gathered_by : {A B : Type 0} (f : A → List B) (z : A) (zs : List A) (y : B) → (In y (f z)) ⊎ (In y (gather f zs)) → (In y (gather f zs) → Gathered f zs y) → Gathered f (z ∷ zs) y
gathered_by f z zs y (inl h) go = record { item = z; there = inl refl; made = h }
gathered_by f z zs y (inr h) go = let r = go h in record { item = r.item; there = inr r.there; made = r.made }

pub gathered : {A B : Type 0} (f : A → List B) (xs : List A) (y : B) → In y (gather f xs) → Gathered f xs y
gathered f [] y h = absurd h
gathered f (z ∷ zs) y h = gathered_by f z zs y (in_either y (f z) (gather f zs) h) (gathered f zs y)

pub get_in : {A : Type 0} (xs : List A) (p : ℕ) (x : A) → slice_get xs p ≡ Some x → In x xs
get_in [] p x e = absurd cc
get_in (y ∷ ys) zero x e = inl cc
get_in (y ∷ ys) (suc p) x e = inr (get_in ys p x e)

pub in_get : {A : Type 0} (xs : List A) (x : A) → In x xs → (p : ℕ) × (slice_get xs p ≡ Some x)
in_get [] x h = absurd h
in_get (y ∷ ys) x (inl e) = (0, ap Some e)
in_get (y ∷ ys) x (inr h) = let r = in_get ys x h in (suc r.0, r.1)

pub in_map : {A B : Type 0} (f : A → B) (xs : List A) (x : A) → In x xs → In (f x) (map f xs)
in_map f [] x h = absurd h
in_map f (y ∷ ys) x (inl e) = inl (ap f e)
in_map f (y ∷ ys) x (inr h) = inr (in_map f ys x h)

pub mapped : {A B : Type 0} (f : A → B) (xs : List A) (y : B) → In y (map f xs) → (x : A) × (In x xs) × (f x ≡ y)
mapped f [] y h = absurd h
mapped f (z ∷ zs) y (inl e) = (z, inl refl, e)
mapped f (z ∷ zs) y (inr h) = let r = mapped f zs y h in (r.0, inr r.1, r.2)

pub map_push : {A B : Type 0} (f : A → B) (xs : List A) (x : A) → map f (xs ++ x ∷ []) ≡ map f xs ++ f x ∷ []
map_push f [] x = refl
map_push f (y ∷ ys) x = ap (λ v. f y ∷ v) (map_push f ys x)

-- ---- the items of a loop

gather_more : {A B : Type 0} (f : A → List B) (xs : List A) (i : ℕ) (x : A) → slice_get xs i ≡ Some x → gather_first f (suc i) xs ≡ gather_first f i xs ++ f x
gather_more f [] i x e = absurd cc
gather_more f (y ∷ ys) zero x e = let same : y ≡ x = cc in append-nil (f y) ∙ ap f same
gather_more f (y ∷ ys) (suc i) x e = ap (λ v. f y ++ v) (gather_more f ys i x e) ∙ sym (append_assoc (f y) (gather_first f i ys) (f x))

pub gather_step : {A B : Type 0} (f : A → List B) (xs : List A) (i : ℕ) (x : A) (start now new : List B) → slice_get xs i ≡ Some x → now ≡ start ++ gather_first f i xs → new ≡ now ++ f x → new ≡ start ++ gather_first f (i + 1) xs
gather_step f xs i x start now new at is more =
    more ∙ (ap (λ v. v ++ f x) is ∙ (append_assoc start (gather_first f i xs) (f x) ∙ ap (λ v. start ++ v) (sym (gather_more f xs i x at) ∙ ap (λ (m : ℕ). gather_first f m xs) (sym (add-one i)))))

gather_all : {A B : Type 0} (f : A → List B) (xs : List A) → gather_first f (length xs) xs ≡ gather f xs
gather_all f [] = refl
gather_all f (x ∷ xs) = ap (λ v. f x ++ v) (gather_all f xs)

pub gather_done : {A B : Type 0} (f : A → List B) (xs : List A) (i : ℕ) (start now : List B) → i ≡ length xs → now ≡ start ++ gather_first f i xs → now ≡ start ++ gather f xs
gather_done f xs i start now e is = is ∙ ap (λ v. start ++ v) (ap (λ (m : ℕ). gather_first f m xs) e ∙ gather_all f xs)

pub map_at : {A B : Type 0} (f : A → B) (xs : List A) (i : ℕ) (x : A) → slice_get xs i ≡ Some x → slice_get (map f xs) i ≡ Some (f x)
map_at f [] i x e = absurd cc
map_at f (y ∷ ys) zero x e = let same : y ≡ x = cc in ap (λ v. Some (f v)) same
map_at f (y ∷ ys) (suc i) x e = map_at f ys i x e

pub map_long : {A B : Type 0} (f : A → B) (xs : List A) → length (map f xs) ≡ length xs
map_long f [] = refl
map_long f (y ∷ ys) = ap suc (map_long f ys)

pub there_at : {A : Type 0} (xs : List A) (i : ℕ) → i < length xs → (x : A) × (slice_get xs i ≡ Some x)
there_at [] i lt = absurd (omega (arith, lt))
there_at (y ∷ ys) zero lt = (y, refl)
there_at (y ∷ ys) (suc i) lt = there_at ys i (omega (arith, lt))

-- one more item of a list that is read in another form
pub item_step : {A T B : Type 0} (g : A → T) (f : T → List B) (xs : List A) (i : ℕ) (d : A) (start now new : List B) → i < length xs → now ≡ start ++ gather_first f i (map g xs) → new ≡ now ++ f (g (get_or xs i d)) → new ≡ start ++ gather_first f (i + 1) (map g xs)
item_step g f xs i d start now new lt is more =
    let r = there_at xs i lt in
    gather_step f (map g xs) i (g r.0) start now new (map_at g xs i r.0 r.1) is (more ∙ ap (λ v. now ++ f (g v)) (get_or_from_slice_get xs i r.0 d r.1))

-- the item of a loop is the one that is asked for
pub item_is : {A : Type 0} (xs ys : List A) (j : ℕ) (item x : A) → xs ≡ ys → j < length xs → item ≡ get_or xs j item → slice_get ys j ≡ Some x → item ≡ x
item_is xs ys j item x same lt is e =
    let there : slice_get xs j ≡ Some item = slice_get_read xs (length xs) j item refl lt is in
    let f : slice_get xs j ≡ Some x = ap (λ zs. slice_get zs j) same ∙ e in
    cc

pub get_there : {A : Type 0} (xs : List A) (i : ℕ) (d : A) → i < length xs → slice_get xs i ≡ Some (get_or xs i d)
get_there xs i d lt = let r = there_at xs i lt in r.1 ∙ ap Some (sym (get_or_from_slice_get xs i r.0 d r.1))

-- and so is an item that is read by its place
pub item_got : {A : Type 0} (xs ys : List A) (j : ℕ) (d x : A) → xs ≡ ys → j < length xs → slice_get ys j ≡ Some x → get_or xs j d ≡ x
item_got xs ys j d x same lt e =
    let there : slice_get xs j ≡ Some (get_or xs j d) = get_there xs j d lt in
    let f : slice_get xs j ≡ Some x = ap (λ zs. slice_get zs j) same ∙ e in
    cc
