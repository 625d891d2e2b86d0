-- One name more in the table.
use Rattle.std.proofs.Common.{◌≡◌, ◌++◌, ◌||◌, ℕ, Bool, true, false, cond, List, [], ◌∷◌, Option, Some, None, refl, sym, ap, ◌∙◌}
use Rattle.std.specs.Prelude.{Vec, is_some}
use Rattle.std.specs.declared.alloc.Global.{Global}
use Rattle.std.specs.List.{list_any}
use Rattle.std.specs.Str.{bytes_eq}
use Rattle.std.proofs.lemmas.List.Folds.{list_any-append}
use Rattle.std.proofs.lemmas.Slice.Eq.{bytes_eq-Decides}
use Rattle.indexmap.specs.IndexSet.{insert_key}
use Rattle.hdl_tree.specs.declared.library.Entry.{Entry}
use Rattle.hdl_tree.specs.Chips.{find_entry}
use Rattle.hdl_names.specs.Names.{IsIndexed, is_key}
use Rattle.hdl_names.specs.declared.NamedChips.{NamedChips}

or_false : (b : Bool) → (b || false) ≡ b
or_false true = refl
or_false false = refl

or_same : (a b : Bool) → (b ≡ true → a ≡ true) → a ≡ (a || b)
or_same true b h = refl
or_same false true h = h refl
or_same false false h = refl

found_by : (c b : Bool) (e : Entry) (more old : Option Entry) → is_some more ≡ (is_some old || b) → is_some (cond c (Some e) more) ≡ (is_some (cond c (Some e) old) || b)
found_by true b e more old h = refl
found_by false b e more old h = h

last_found : (b : Bool) (e : Entry) → is_some (cond b (Some e) None) ≡ b
last_found true e = refl
last_found false e = refl

-- one chip more is found by its name
pub found_more : (entries : List Entry) (entry : Entry) (name : List ℕ) → is_some (find_entry (entries ++ entry ∷ []) name) ≡ (is_some (find_entry entries name) || bytes_eq name entry.name)
found_more [] entry name = last_found (bytes_eq name entry.name) entry
found_more (e ∷ entries) entry name = found_by (bytes_eq name e.name) (bytes_eq name entry.name) e (find_entry (entries ++ entry ∷ []) name) (find_entry entries name) (found_more entries entry name)

key_by : (b : Bool) (keys : List (Vec ℕ Global)) (key : Vec ℕ Global) (name : List ℕ) → list_any (is_key key.items) keys ≡ b → list_any (is_key name) (cond b keys (keys ++ key ∷ [])) ≡ (list_any (is_key name) keys || is_key name key)
key_by true keys key name h =
    or_same (list_any (is_key name) keys) (is_key name key) (λ same. ap (λ (n : List ℕ). list_any (is_key n) keys) ((bytes_eq-Decides name key.items).0 same) ∙ h)
key_by false keys key name h = list_any-append (is_key name) keys (key ∷ []) ∙ ap (λ (b : Bool). list_any (is_key name) keys || b) (or_false (is_key name key))

key_more : (keys : List (Vec ℕ Global)) (key : Vec ℕ Global) (name : List ℕ) → list_any (is_key name) (insert_key (λ x y. bytes_eq x.items y.items) keys key) ≡ (list_any (is_key name) keys || is_key name key)
key_more keys key name = key_by (list_any (is_key key.items) keys) keys key name refl

pub indexed_more : (chips : NamedChips) (keys : List (Vec ℕ Global)) (entries : List Entry) (key : Vec ℕ Global) (entry : Entry) → key.items ≡ entry.name → keys ≡ insert_key (λ x y. bytes_eq x.items y.items) chips.names.keys key
    → entries ≡ chips.entries.items ++ entry ∷ [] → IsIndexed chips → (name : List ℕ) → list_any (is_key name) keys ≡ is_some (find_entry entries name)
indexed_more chips keys entries key entry named more pushed indexed name =
    ap (list_any (is_key name)) more ∙ key_more chips.names.keys key name
    ∙ ap (λ (b : Bool). b || bytes_eq name key.items) (indexed name) ∙ ap (λ (n : List ℕ). is_some (find_entry chips.entries.items name) || bytes_eq name n) named
    ∙ sym (found_more chips.entries.items entry name) ∙ ap (λ (es : List Entry). is_some (find_entry es name)) (sym pushed)

-- what a search by name says
pub some_found : (f : Option Entry) → is_some f ≡ true → (e : Entry) × (f ≡ Some e)
some_found None h = absurd (let bad : ⊥ = cc in bad)
some_found (Some e) h = (e, refl)

pub none_found : (f : Option Entry) → is_some f ≡ false → f ≡ None
none_found None h = refl
none_found (Some e) h = absurd (let bad : ⊥ = cc in bad)
