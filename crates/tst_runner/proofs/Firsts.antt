-- The first part of each chip.
use Rattle.std.proofs.Common.{◌≡◌, ◌<◌, ◌+◌, ℕ, List, [], ◌∷◌, ◌++◌, Bool, true, false, cond, not, ◌||◌, length, get_or, map, take, refl, sym, ap, subst, ◌∙◌, arith}
use Rattle.std.specs.Prelude.{Option, Some, None, is_some, if◌then◌else◌}
use Rattle.std.specs.Str.{bytes_eq}
use Rattle.std.specs.Cmp.Lexicographic.{bytes_decides}
use Rattle.std.specs.List.{Contains}
use Rattle.std.proofs.lemmas.List.{get_or-map, length-map, take_more}
use Rattle.std.proofs.lemmas.List.Elements.{Contains-get_or}
use Rattle.std.proofs.lemmas.Bool.Decides.{same_from_decides}
use Rattle.hdl_tree.specs.declared.library.Entry.{Entry}
use Rattle.name_table.specs.Names.{find_value, first_of, with_new}
use Rattle.name_table.proofs.Entries.{found-append, one_next, stays}
use Rattle.hdl_flatten.specs.declared.flat.PartAt.{PartAt}
use Rattle.script_device.specs.declared.directory.PartNodes.{PartNodes}
use Rattle.script_device.specs.Directory.{part_named}
use Rattle.tst_runner.specs.Directories.{first_part, part_nodes}

abbrev part_if : Bool → PartNodes → Option PartNodes
part_if b part = if b then Some part else None

-- one more part at the end
named_more : (parts : List PartNodes) (part : PartNodes) (name : List ℕ) → part_named (parts ++ part ∷ []) name ≡ first_of (part_named parts name) (part_if (bytes_eq part.chip name) part)
named_more [] part name = refl
named_more (p ∷ parts) part name = by (bytes_eq p.chip name) (named_more parts part name) where
  by : (b : Bool) → part_named (parts ++ part ∷ []) name ≡ first_of (part_named parts name) (part_if (bytes_eq part.chip name) part) → (if b then Some p else part_named (parts ++ part ∷ []) name) ≡ first_of (if b then Some p else part_named parts name) (part_if (bytes_eq part.chip name) part)
  by true more = refl
  by false more = more

first_more : (entries : List Entry) (parts : List PartAt) (part : PartAt) (name : List ℕ) → first_part entries (parts ++ part ∷ []) name ≡ first_of (first_part entries parts name) (part_if (bytes_eq part.chip name) (part_nodes entries part))
first_more entries [] part name = refl
first_more entries (p ∷ parts) part name = by (bytes_eq p.chip name) (first_more entries parts part name) where
  by : (b : Bool) → first_part entries (parts ++ part ∷ []) name ≡ first_of (first_part entries parts name) (part_if (bytes_eq part.chip name) (part_nodes entries part)) → (if b then Some (part_nodes entries p) else first_part entries (parts ++ part ∷ []) name) ≡ first_of (if b then Some (part_nodes entries p) else first_part entries parts name) (part_if (bytes_eq part.chip name) (part_nodes entries part))
  by true more = refl
  by false more = more

first_alone : (o : Option PartNodes) → first_of o None ≡ o
first_alone None = refl
first_alone (Some part) = refl

abbrev AreFirst : List Entry → List PartAt → List PartNodes → Type 0
AreFirst entries parts named = (name : List ℕ) → part_named named name ≡ first_part entries parts name

-- a part of a chip that is new
pub first_new : (entries : List Entry) (parts : List PartAt) (part : PartAt) (named : List PartNodes) → AreFirst entries parts named → AreFirst entries (parts ++ part ∷ []) (named ++ part_nodes entries part ∷ [])
first_new entries parts part named first name =
    named_more named (part_nodes entries part) name
    ∙ ap (λ o. first_of o (part_if (bytes_eq part.chip name) (part_nodes entries part))) (first name)
    ∙ sym (first_more entries parts part name)

-- and one of a chip that is there
pub first_old : (entries : List Entry) (parts : List PartAt) (part : PartAt) (old : PartNodes) (named : List PartNodes) → AreFirst entries parts named → part_named named part.chip ≡ Some old → AreFirst entries (parts ++ part ∷ []) named
first_old entries parts part old named first there name = by (bytes_eq part.chip name) refl ∙ sym (first_more entries parts part name) where
  by : (b : Bool) → bytes_eq part.chip name ≡ b → part_named named name ≡ first_of (first_part entries parts name) (part_if b (part_nodes entries part))
  by true same =
      let e : part.chip ≡ name = (bytes_decides part.chip name).0 same in
      let found : part_named named name ≡ Some old = ap (part_named named) (sym e) ∙ there in
      let listed : first_part entries parts name ≡ Some old = sym (first name) ∙ found in
      found ∙ sym (ap (λ o. first_of o (Some (part_nodes entries part))) listed)
  by false other = first name ∙ sym (first_alone (first_part entries parts name))

-- a part that is listed is among all
mapped_among : {X Y : Type 0} (f : X → Y) (xs : List X) (k : ℕ) (d : X) → k < length xs → Contains (map f xs) (f (get_or xs k d))
mapped_among f xs k d lt = subst (Contains (map f xs)) (get_or-map f xs k d (f d) lt) (Contains-get_or (map f xs) k (f d) (omega (arith, length-map xs f)))

-- ---- a loop's step

pub step_new : (entries : List Entry) (parts : List PartAt) (k : ℕ) (part : PartAt) (new : PartNodes) (named : List PartNodes) → k < length parts → part ≡ get_or parts k part → new ≡ part_nodes entries part → AreFirst entries (take k parts) named → AreFirst entries (take (k + 1) parts) (named ++ new ∷ [])
step_new entries parts k part new named lt is made first name =
    let more : take (k + 1) parts ≡ take k parts ++ part ∷ [] = take_more parts k part lt ∙ ap (λ p. take k parts ++ p ∷ []) (sym is) in
    ap (λ n. part_named (named ++ n ∷ []) name) made ∙ first_new entries (take k parts) part named first name ∙ ap (λ ps. first_part entries ps name) (sym more)

pub step_old : (entries : List Entry) (parts : List PartAt) (k : ℕ) (part : PartAt) (old : PartNodes) (named : List PartNodes) → k < length parts → part ≡ get_or parts k part → part_named named part.chip ≡ Some old → AreFirst entries (take k parts) named → AreFirst entries (take (k + 1) parts) named
step_old entries parts k part old named lt is there first name =
    let more : take (k + 1) parts ≡ take k parts ++ part ∷ [] = take_more parts k part lt ∙ ap (λ p. take k parts ++ p ∷ []) (sym is) in
    first_old entries (take k parts) part old named first there name ∙ ap (λ ps. first_part entries ps name) (sym more)

pub new_among : (entries : List Entry) (parts : List PartAt) (k : ℕ) (part : PartAt) (new : PartNodes) → k < length parts → part ≡ get_or parts k part → new ≡ part_nodes entries part → Contains (map (part_nodes entries) parts) new
new_among entries parts k part new lt is made = subst (Contains (map (part_nodes entries) parts)) (sym (made ∙ ap (part_nodes entries) is)) (mapped_among (part_nodes entries) parts k part lt)

-- ---- the names of the chips whose first parts are kept

abbrev pub AreSeen : List (List ℕ × Unit {0}) → List PartNodes → Type 0
AreSeen seen named = (name : List ℕ) → is_some (find_value name seen) ≡ is_some (part_named named name)

pub seen_none : (seen : List (List ℕ × Unit {0})) → seen ≡ [] → AreSeen seen []
seen_none seen none name = ap (λ (es : List (List ℕ × Unit {0})). is_some (find_value name es)) none

flipped : (a b : List ℕ) → bytes_eq a b ≡ bytes_eq b a
flipped a b = same_from_decides (bytes_eq a b) (bytes_eq b a) (bytes_decides a b) (λ e. sym ((bytes_decides b a).0 e), λ e. (bytes_decides b a).1 (sym e))

some_first : {A : Type 0} (o : Option A) (b : Bool) (a : A) → is_some (first_of o (cond b (Some a) None)) ≡ (is_some o || b)
some_first None true a = refl
some_first None false a = refl
some_first (Some x) b a = refl

pub seen_more : (seen seen' : List (List ℕ × Unit {0})) (named : List PartNodes) (part : PartNodes) → seen' ≡ with_new seen part.chip tt → AreSeen seen named → AreSeen seen' (named ++ part ∷ [])
seen_more seen seen' named part entered are name =
    ap is_some (one_next name part.chip seen' seen tt entered ∙ found-append name seen ((part.chip, tt) ∷ []))
    ∙ some_first (find_value name seen) (bytes_eq name part.chip) tt
    ∙ ap (λ (b : Bool). b || bytes_eq name part.chip) (are name)
    ∙ ap (λ (b : Bool). is_some (part_named named name) || b) (flipped name part.chip)
    ∙ sym (some_first (part_named named name) (bytes_eq part.chip name) part)
    ∙ sym (ap is_some (named_more named part name))

pub seen_same : (seen seen' : List (List ℕ × Unit {0})) (chip : List ℕ) (named : List PartNodes) → seen' ≡ with_new seen chip tt → is_some (find_value chip seen) ≡ true → AreSeen seen named → AreSeen seen' named
seen_same seen seen' chip named entered there are = subst (λ (es : List (List ℕ × Unit {0})). AreSeen es named) (sym (entered ∙ sym (stays chip seen tt there))) are

-- a part of a chip that was seen is kept
pub seen_old : (new among : Bool) → new ≡ not among → new ≡ false → among ≡ true
seen_old new true is h = refl
seen_old new false is h = absurd (let bad : ⊥ = cc in bad)

pub kept_part : (o : Option PartNodes) → is_some o ≡ true → (old : PartNodes) × (o ≡ Some old)
kept_part None h = absurd (let bad : ⊥ = cc in bad)
kept_part (Some part) h = (part, refl)
