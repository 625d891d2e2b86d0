-- The first place of each name, by tables.
use Rattle.std.proofs.Common.{◌≡◌, ◌<◌, ℕ, suc, Bool, true, false, cond, List, [], ◌∷◌, ◌++◌, length, get_or, Option, Some, None, refl, sym, ap, ◌∙◌}
use Rattle.std.specs.Prelude.{Vec, is_some, slice_get}
use Rattle.std.specs.declared.alloc.Global.{Global}
use Rattle.std.specs.Option.{option_map}
use Rattle.std.specs.Map.{lookup}
use Rattle.std.specs.Str.{bytes_eq}
use Rattle.std.specs.Cmp.Lexicographic.{bytes_decides, nat_list_eq_equiv}
use Rattle.std.proofs.lemmas.Option.{get_or_from_slice_get, slice_get_within}
use Rattle.indexmap.specs.IndexMap.{insert_entry}
use Rattle.script_device.specs.declared.directory.PinNodes.{PinNodes}
use Rattle.script_device.specs.declared.directory.PartNodes.{PartNodes}
use Rattle.script_device.specs.declared.numbering.Numbers.{Numbers}
use Rattle.script_device.specs.Directory.{part_named, pin_named}
use Rattle.script_device.specs.Inner.Numbers.{AreNumbers, first_place, is_key, number_in, part_names, pin_names}

-- ---- one name more in a list

pub first_kept : (names : List (List ℕ)) (n x : List ℕ) (k : ℕ) → first_place names x ≡ Some k → first_place (names ++ n ∷ []) x ≡ Some k
first_kept [] n x k e = absurd (let no : ⊥ = cc in no)
first_kept (y ∷ ys) n x k e = by (bytes_eq y x) (first_place ys x) (first_kept ys n x) e where
  by : (b : Bool) (o : Option ℕ) → ((j : ℕ) → o ≡ Some j → first_place (ys ++ n ∷ []) x ≡ Some j) → cond b (Some 0) (option_map suc o) ≡ Some k → cond b (Some 0) (option_map suc (first_place (ys ++ n ∷ []) x)) ≡ Some k
  by true o rest e = e
  by false None rest e = absurd (let no : ⊥ = cc in no)
  by false (Some j) rest e = ap (option_map suc) (rest j refl) ∙ e

pub first_last : (names : List (List ℕ)) (n x : List ℕ) → first_place names x ≡ None → first_place (names ++ n ∷ []) x ≡ cond (bytes_eq n x) (Some (length names)) None
first_last [] n x e = refl
first_last (y ∷ ys) n x e = by (bytes_eq y x) (first_place ys x) (first_last ys n x) e where
  moved : (b : Bool) (k : ℕ) → option_map suc (cond b (Some k) None) ≡ cond b (Some (suc k)) None
  moved true k = refl
  moved false k = refl

  by : (b : Bool) (o : Option ℕ) → (o ≡ None → first_place (ys ++ n ∷ []) x ≡ cond (bytes_eq n x) (Some (length ys)) None) → cond b (Some 0) (option_map suc o) ≡ None
      → cond b (Some 0) (option_map suc (first_place (ys ++ n ∷ []) x)) ≡ cond (bytes_eq n x) (Some (suc (length ys))) None
  by true o rest e = absurd (let no : ⊥ = cc in no)
  by false None rest e = ap (option_map suc) (rest refl) ∙ moved (bytes_eq n x) (length ys)
  by false (Some j) rest e = absurd (let no : ⊥ = cc in no)

-- ---- one entry more in a table

abbrev Entries : Type 0
Entries = List (Vec ℕ Global × ℕ)

entry_kept : (es : Entries) (key : Vec ℕ Global) (place : ℕ) (x : List ℕ) (k : ℕ) → lookup (is_key x) es ≡ Some k → lookup (is_key x) (es ++ (key, place) ∷ []) ≡ Some k
entry_kept [] key place x k e = absurd (let no : ⊥ = cc in no)
entry_kept (y ∷ ys) key place x k e = by (is_key x y.0) (entry_kept ys key place x k) e where
  by : (b : Bool) → (lookup (is_key x) ys ≡ Some k → lookup (is_key x) (ys ++ (key, place) ∷ []) ≡ Some k) → cond b (Some y.1) (lookup (is_key x) ys) ≡ Some k → cond b (Some y.1) (lookup (is_key x) (ys ++ (key, place) ∷ [])) ≡ Some k
  by true rest e = e
  by false rest e = rest e

entry_last : (es : Entries) (key : Vec ℕ Global) (place : ℕ) (x : List ℕ) → lookup (is_key x) es ≡ None → lookup (is_key x) (es ++ (key, place) ∷ []) ≡ cond (is_key x key) (Some place) None
entry_last [] key place x e = refl
entry_last (y ∷ ys) key place x e = by (is_key x y.0) (entry_last ys key place x) e where
  by : (b : Bool) → (lookup (is_key x) ys ≡ None → lookup (is_key x) (ys ++ (key, place) ∷ []) ≡ cond (is_key x key) (Some place) None) → cond b (Some y.1) (lookup (is_key x) ys) ≡ None → cond b (Some y.1) (lookup (is_key x) (ys ++ (key, place) ∷ [])) ≡ cond (is_key x key) (Some place) None
  by true rest e = absurd (let no : ⊥ = cc in no)
  by false rest e = rest e

-- a key that is not there goes last
inserted : (es : Entries) (key : Vec ℕ Global) (place : ℕ) → lookup (is_key key.items) es ≡ None → insert_entry (λ x y. bytes_eq x.items y.items) es key place ≡ es ++ (key, place) ∷ []
inserted [] key place e = refl
inserted (y ∷ ys) key place e = by (is_key key.items y.0) (inserted ys key place) e where
  by : (b : Bool) → (lookup (is_key key.items) ys ≡ None → insert_entry (λ x y. bytes_eq x.items y.items) ys key place ≡ ys ++ (key, place) ∷ []) → cond b (Some y.1) (lookup (is_key key.items) ys) ≡ None
      → cond b ((y.0, place) ∷ ys) (y ∷ insert_entry (λ x y. bytes_eq x.items y.items) ys key place) ≡ y ∷ (ys ++ (key, place) ∷ [])
  by true rest e = absurd (let no : ⊥ = cc in no)
  by false rest e = ap (λ (t : Entries). y ∷ t) (rest e)

-- ---- one name more in both

some_there : (o : Option ℕ) → is_some o ≡ true → (k : ℕ) × (o ≡ Some k)
some_there None e = absurd (let no : ⊥ = cc in no)
some_there (Some k) e = (k, refl)

none_there : (o : Option ℕ) → is_some o ≡ false → o ≡ None
none_there None e = refl
none_there (Some k) e = absurd (let no : ⊥ = cc in no)

-- a name that is there keeps its number
pub numbers_kept : (t : Numbers) (names : List (List ℕ)) (n : List ℕ) → is_some (number_in t n) ≡ true → AreNumbers t names → AreNumbers t (names ++ n ∷ [])
numbers_kept t names n there are x = by (first_place names x) refl where
  has : (k : ℕ) × (number_in t n ≡ Some k)
  has = some_there (number_in t n) there

  first : first_place names n ≡ Some has.0
  first = sym (are n) ∙ has.1

  same : (b : Bool) → bytes_eq n x ≡ b → first_place names x ≡ None → cond b (Some (length names)) None ≡ None
  same true e none = let is : n ≡ x = (bytes_decides n x).0 e in let bad : None ≡ Some has.0 = sym (ap (first_place names) is ∙ none) ∙ first in absurd (let no : ⊥ = cc in no)
  same false e none = refl

  by : (o : Option ℕ) → first_place names x ≡ o → number_in t x ≡ first_place (names ++ n ∷ []) x
  by None e = are x ∙ e ∙ sym (first_last names n x e ∙ same (bytes_eq n x) refl e)
  by (Some j) e = are x ∙ e ∙ sym (first_kept names n x j e)

-- a name that is not there has the next number
pub numbers_more : (t now : Numbers) (names : List (List ℕ)) (n : List ℕ) (key : Vec ℕ Global) (place : ℕ) → key.items ≡ n → is_some (number_in t n) ≡ false → now.places.entries ≡ insert_entry (λ x y. bytes_eq x.items y.items) t.places.entries key place
    → place ≡ length names → AreNumbers t names → AreNumbers now (names ++ n ∷ [])
numbers_more t now names n key place is none more last are x = ap (lookup (is_key x)) grown ∙ by (first_place names x) refl where
  grown : now.places.entries ≡ t.places.entries ++ (key, place) ∷ []
  grown = more ∙ inserted t.places.entries key place (ap (number_in t) is ∙ none_there (number_in t n) none)

  other : is_key x key ≡ bytes_eq n x
  other = ap (bytes_eq x) is ∙ nat_list_eq_equiv.symm x n

  by : (o : Option ℕ) → first_place names x ≡ o → lookup (is_key x) (t.places.entries ++ (key, place) ∷ []) ≡ first_place (names ++ n ∷ []) x
  by None e =
      entry_last t.places.entries key place x (are x ∙ e) ∙ ap (λ (b : Bool). cond b (Some place) None) other ∙ ap (λ k. cond (bytes_eq n x) (Some k) None) last
      ∙ sym (first_last names n x e)
  by (Some j) e = entry_kept t.places.entries key place x j (are x ∙ e) ∙ sym (first_kept names n x j e)

-- ---- what stands at the first place

before_some : (o : Option ℕ) (k : ℕ) → option_map suc o ≡ Some k → (j : ℕ) × (o ≡ Some j) × (suc j ≡ k)
before_some None k e = absurd (let no : ⊥ = cc in no)
before_some (Some j) k e = (j, refl, cc)

before_none : (o : Option ℕ) → option_map suc o ≡ None → o ≡ None
before_none None e = refl
before_none (Some j) e = absurd (let no : ⊥ = cc in no)

abbrev pub PinAt : List PinNodes → List ℕ → ℕ → Type 0
PinAt pins name k = (pin : PinNodes) × (slice_get pins k ≡ Some pin) × (pin_named pins name ≡ Some pin.nodes)

pub pin_at : (pins : List PinNodes) (name : List ℕ) (k : ℕ) → first_place (pin_names pins) name ≡ Some k → PinAt pins name k
pin_at [] name k e = absurd (let no : ⊥ = cc in no)
pin_at (pin ∷ pins) name k e = by (bytes_eq pin.name name) (pin_at pins name) e where
  by : (b : Bool) → ((j : ℕ) → first_place (pin_names pins) name ≡ Some j → PinAt pins name j) → cond b (Some 0) (option_map suc (first_place (pin_names pins) name)) ≡ Some k → (p : PinNodes) × (slice_get (pin ∷ pins) k ≡ Some p) × (cond b (Some pin.nodes) (pin_named pins name) ≡ Some p.nodes)
  by true rest e = let first : 0 ≡ k = cc in (pin, ap (slice_get (pin ∷ pins)) (sym first), refl)
  by false rest e =
      let before = before_some (first_place (pin_names pins) name) k e in
      let at : PinAt pins name before.0 = rest before.0 before.1 in
      (at.0, ap (slice_get (pin ∷ pins)) (sym before.2) ∙ at.1, at.2)

pub no_pin : (pins : List PinNodes) (name : List ℕ) → first_place (pin_names pins) name ≡ None → pin_named pins name ≡ None
no_pin [] name e = refl
no_pin (pin ∷ pins) name e = by (bytes_eq pin.name name) (no_pin pins name) e where
  by : (b : Bool) → (first_place (pin_names pins) name ≡ None → pin_named pins name ≡ None) → cond b (Some 0) (option_map suc (first_place (pin_names pins) name)) ≡ None → cond b (Some pin.nodes) (pin_named pins name) ≡ None
  by true rest e = absurd (let no : ⊥ = cc in no)
  by false rest e = rest (before_none (first_place (pin_names pins) name) e)

abbrev pub PartAt : List PartNodes → List ℕ → ℕ → Type 0
PartAt parts name k = (part : PartNodes) × (slice_get parts k ≡ Some part) × (part_named parts name ≡ Some part)

pub part_at : (parts : List PartNodes) (name : List ℕ) (k : ℕ) → first_place (part_names parts) name ≡ Some k → PartAt parts name k
part_at [] name k e = absurd (let no : ⊥ = cc in no)
part_at (part ∷ parts) name k e = by (bytes_eq part.chip name) (part_at parts name) e where
  by : (b : Bool) → ((j : ℕ) → first_place (part_names parts) name ≡ Some j → PartAt parts name j) → cond b (Some 0) (option_map suc (first_place (part_names parts) name)) ≡ Some k → (p : PartNodes) × (slice_get (part ∷ parts) k ≡ Some p) × (cond b (Some part) (part_named parts name) ≡ Some p)
  by true rest e = let first : 0 ≡ k = cc in (part, ap (slice_get (part ∷ parts)) (sym first), refl)
  by false rest e =
      let before = before_some (first_place (part_names parts) name) k e in
      let at : PartAt parts name before.0 = rest before.0 before.1 in
      (at.0, ap (slice_get (part ∷ parts)) (sym before.2) ∙ at.1, at.2)

pub no_part : (parts : List PartNodes) (name : List ℕ) → first_place (part_names parts) name ≡ None → part_named parts name ≡ None
no_part [] name e = refl
no_part (part ∷ parts) name e = by (bytes_eq part.chip name) (no_part parts name) e where
  by : (b : Bool) → (first_place (part_names parts) name ≡ None → part_named parts name ≡ None) → cond b (Some 0) (option_map suc (first_place (part_names parts) name)) ≡ None → cond b (Some part) (part_named parts name) ≡ None
  by true rest e = absurd (let no : ⊥ = cc in no)
  by false rest e = rest (before_none (first_place (part_names parts) name) e)

-- ---- as the code finds them

pub pin_within : (t : Numbers) (pins : List PinNodes) (name : List ℕ) (k : ℕ) → AreNumbers t (pin_names pins) → number_in t name ≡ Some k → k < length pins
pin_within t pins name k are e = let at = pin_at pins name k (sym (are name) ∙ e) in slice_get_within pins k at.0 at.1

pub pin_found : (t : Numbers) (pins : List PinNodes) (name nodes : List ℕ) (k : ℕ) (none : PinNodes) → AreNumbers t (pin_names pins) → number_in t name ≡ Some k → nodes ≡ (get_or pins k none).nodes → pin_named pins name ≡ Some nodes
pin_found t pins name nodes k none are e is =
    let at = pin_at pins name k (sym (are name) ∙ e) in
    at.2 ∙ ap (λ (pin : PinNodes). Some pin.nodes) (sym (get_or_from_slice_get pins k at.0 none at.1)) ∙ ap Some (sym is)

pub pin_missed : (t : Numbers) (pins : List PinNodes) (name : List ℕ) → AreNumbers t (pin_names pins) → number_in t name ≡ None → pin_named pins name ≡ None
pin_missed t pins name are e = no_pin pins name (sym (are name) ∙ e)

pub part_within : (t : Numbers) (parts : List PartNodes) (name : List ℕ) (k : ℕ) → AreNumbers t (part_names parts) → number_in t name ≡ Some k → k < length parts
part_within t parts name k are e = let at = part_at parts name k (sym (are name) ∙ e) in slice_get_within parts k at.0 at.1

pub part_found : (t : Numbers) (parts list : List PartNodes) (name : List ℕ) (k : ℕ) (none : PartNodes) → AreNumbers t (part_names parts) → number_in t name ≡ Some k → list ≡ parts → part_named parts name ≡ Some (get_or list k none)
part_found t parts list name k none are e same =
    let at = part_at parts name k (sym (are name) ∙ e) in
    at.2 ∙ ap Some (sym (get_or_from_slice_get parts k at.0 none at.1)) ∙ ap (λ (v : List PartNodes). Some (get_or v k none)) (sym same)

pub part_missed : (t : Numbers) (parts : List PartNodes) (name : List ℕ) → AreNumbers t (part_names parts) → number_in t name ≡ None → part_named parts name ≡ None
part_missed t parts name are e = no_part parts name (sym (are name) ∙ e)
