-- What loading says of the chip of a name, and of all that are gathered.
use Rattle.std.proofs.Common.{◌≡◌, ◌<◌, ◌++◌, ℕ, zero, suc, Bool, true, false, cond, List, [], ◌∷◌, Option, Some, None, Result, Ok, Err, refl, sym, ap, subst, ◌∙◌, inl, inr}
use Rattle.std.specs.Prelude.{IfSome, is_some, slice_get}
use Rattle.std.specs.Str.{bytes_eq}
use Rattle.std.proofs.lemmas.Slice.Eq.{bytes_eq-Decides}
use Rattle.outer_world.specs.Files.{Files, IsListing, LacksFile, LacksFolder, file_at, has_name, path_in}
use Rattle.hdl_tree.specs.declared.tree.Chip.{Chip}
use Rattle.hdl_tree.specs.declared.tree.Body.{Body}
use Rattle.hdl_tree.specs.declared.tree.Body.TheVariants as body
use Rattle.hdl_tree.specs.declared.library.Entry.{Entry}
use Rattle.hdl_tree.specs.declared.library.Library.{Library}
use Rattle.hdl_tree.specs.Chips.{find_entry}
use Rattle.source_files.specs.Loads.{Loads, line_of}
use Rattle.source_files.specs.declared.error.LoadError.{LoadError}
use Rattle.source_files.specs.declared.error.LoadError.TheVariants as errors
use Rattle.tst_runner.specs.Gathering.{Gather, GatherFails, Sources, IsFound, built_in, entry_with, file_of, here, needed_names, no_more}
use Rattle.tst_runner.specs.Inner.Gathered.{IsMore, IsNext, IsRefusedAt, Leads, LacksFileOf}
use Rattle.tst_runner.specs.declared.gathering.Origin.{Origin}
use Rattle.tst_runner.proofs.Leading.{past_found}
use Rattle.tst_runner.proofs.Ending.{candidates, fewer_left, left}
use Rattle.tst_runner.specs.Loading.{HasFailed, HasGathered, HasSources}
use Rattle.tst_runner.specs.Setting.{Setting}

-- ---- a chip that is found

-- it stands somewhere, and has the name that it is found by
pub record Stands (entries : List Entry) (name : List ℕ) (entry : Entry) : Type 0 where
  pub place : ℕ
  pub there : slice_get entries place ≡ Some entry
  pub named : name ≡ entry.name

stands_by : (b : Bool) (e : Entry) (entries : List Entry) (name : List ℕ) (entry : Entry) → bytes_eq name e.name ≡ b → cond b (Some e) (find_entry entries name) ≡ Some entry → (find_entry entries name ≡ Some entry → Stands entries name entry)
    → Stands (e ∷ entries) name entry
stands_by true e entries name entry test h more =
    let same : e ≡ entry = cc in
    record { place = zero; there = h; named = (bytes_eq-Decides name e.name).0 test ∙ ap (λ (c : Entry). c.name) same }
stands_by false e entries name entry test h more = let s = more h in record { place = suc s.place; there = s.there; named = s.named }

pub stands : (entries : List Entry) (name : List ℕ) (entry : Entry) → find_entry entries name ≡ Some entry → Stands entries name entry
stands [] name entry h = absurd (let bad : ⊥ = cc in bad)
stands (e ∷ entries) name entry h = stands_by (bytes_eq name e.name) e entries name entry refl h (stands entries name entry)

named : (entries : List Entry) (name : List ℕ) (entry : Entry) → find_entry entries name ≡ Some entry → name ≡ entry.name
named entries name entry h = let s = stands entries name entry h in s.named

built_named : (name : List ℕ) (chip : Chip) (o : Option Entry) → (built_in name chip o).name ≡ name
built_named name chip None = refl
built_named name chip (Some entry) = refl

text_named : (shipped : List Entry) (name : List ℕ) (chip : Chip) (b : Body) → (entry_with shipped name chip b).name ≡ name
text_named shipped name chip (body.Parts parts) = refl
text_named shipped name chip (body.Builtin own clocked) = built_named name chip (find_entry shipped own)

pub found_named : (from : Sources) (name : List ℕ) (entry : Entry) → IsFound from name entry → entry.name ≡ name
found_named from name entry (inl (there, (text, chip, has, spells, is))) = ap (λ (e : Entry). e.name) is ∙ text_named from.shipped name chip chip.body
found_named from name entry (inr (there, found)) = sym (named from.shipped name entry found)

-- ---- a file that is listed is there

no_file : {A : Type 0} (o : Option A) → o ≡ None → is_some o ≡ true → ⊥
no_file None e h = let bad : ⊥ = cc in bad
no_file (Some a) e h = let bad : ⊥ = cc in bad

lacks_none : (told : Option Files) (there : List ℕ → Bool) (folder : List ℕ) (names : List (List ℕ)) (name : List ℕ) → IfSome told (λ files. IsListing files folder names) → has_name names name ≡ true → LacksFile told (path_in folder name) → LacksFolder told there folder
lacks_none None there folder names name listing stands lacks = tt
lacks_none (Some files) there folder names name listing stands lacks =
    absurd (no_file (file_at files (path_in folder name)) lacks (sym (listing.each name (listing.no_slash name stands)) ∙ stands))

-- ---- all that are gathered

module _ (from : Sources) (there : List ℕ → Bool) (first : List ℕ) (steady : Type 0) where
  abbrev Whole : Result Library LoadError → Type 0
  Whole r = Loads (λ (library : Library). Gather from (first ∷ []) [] library.entries) (GatherFails from (first ∷ []) []) (steady → LacksFolder from.files there from.folder) r

  -- a chip of which nothing is read
  pub unfound : {A : Type 0} (good : A → Type 0) (later : Type 0) (name : List ℕ) (others : List (List ℕ)) (entries : List Entry) (e : LoadError) → IfSome from.files (λ told. IsListing told from.folder from.names) → (steady → later) → Leads from (first ∷ []) [] (name ∷ others) entries
      → find_entry entries name ≡ None → Loads good (IsRefusedAt from name) (later → LacksFileOf from name) (Err e) → Whole (Err e)
  unfound good later name others entries (errors.Refused r) listing keeps leads new h = leads.fails (line_of r) (here (new, h.0, h.1))
  unfound good later name others entries errors.Failed listing keeps leads new h = λ s. let lacks = h (keeps s) in lacks_none from.files there from.folder from.names (file_of name) listing lacks.0 lacks.1
  unfound good later name others entries errors.Memory listing keeps leads new h = tt

-- ---- a turn of the loop

leads_then : {from : Sources} {names names' names'' : List (List ℕ)} {entries entries' entries'' : List Entry} → Leads from names entries names' entries' → Leads from names' entries' names'' entries'' → Leads from names entries names'' entries''
leads_then h k = record { gathers = λ all g. h.gathers all (k.gathers all g); fails = λ line g. h.fails line (k.fails line g) }

module _ (from : Sources) (first stack : List (List ℕ)) (entries : List Entry) (leads : Leads from first [] stack entries) where
  pub to_next : (name : List ℕ) (origin : Origin) (others : List (List ℕ)) → IsNext from stack entries name origin others → Leads from first [] (name ∷ others) entries
  to_next name origin others next = leads_then leads next.leads

  pub turn : (name : List ℕ) (origin : Origin) (others stack' : List (List ℕ)) (entries' : List Entry) → IsNext from stack entries name origin others → IsMore from name others entries stack' entries' → Leads from first [] stack' entries'
  turn name origin others stack' entries' next is =
      let entry = is.entry in
      let found = is.found in
      let pushed = is.needed in
      let more = is.pushed in
      let on : Leads from first [] (needed_names from.memories entry ++ others) (entries ++ entry ∷ []) = past_found entry next.new found (to_next name origin others next) in
      let grown : Leads from first [] (needed_names from.memories entry ++ others) entries' = subst (λ (es : List Entry). Leads from first [] (needed_names from.memories entry ++ others) es) (sym more) on in
      subst (λ (names : List (List ℕ)). Leads from first [] names entries') (sym pushed) grown

  pub fewer : (name : List ℕ) (origin : Origin) (others stack' : List (List ℕ)) (entries' : List Entry) → IsNext from stack entries name origin others → IsMore from name others entries stack' entries'
      → left entries' (candidates from.names from.shipped) < left entries (candidates from.names from.shipped)
  fewer name origin others stack' entries' next is =
      subst (λ (es : List Entry). left es (candidates from.names from.shipped) < left entries (candidates from.names from.shipped)) (sym is.pushed)
      (fewer_left from entries name origin is.entry next.at next.new (found_named from name is.entry is.found))

  pub all_taken : Leads from stack entries [] entries → Gather from first [] entries
  all_taken last = leads.gathers entries (last.gathers entries no_more)

pub gathered_loads : (setting : Setting) (from : Sources) (name : List ℕ) (missed : Type 0) (r : Result Library LoadError) → HasSources setting from
    → Loads (λ (library : Library). Gather from (name ∷ []) [] library.entries) (GatherFails from (name ∷ []) []) missed r → Loads (λ (library : Library). HasGathered setting name library.entries) (HasFailed setting name) missed r
gathered_loads setting from name missed (Ok library) has h = (from, has, h)
gathered_loads setting from name missed (Err (errors.Refused r)) has h = (from, has, h)
gathered_loads setting from name missed (Err errors.Failed) has h = h
gathered_loads setting from name missed (Err errors.Memory) has h = tt
