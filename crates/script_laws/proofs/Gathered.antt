-- Over known files a chip's name gathers one list of chips, or the text of one of them is refused with one line, and not both.
use Rattle.std.proofs.Common.{◌≡◌, ◌⊎◌, ℕ, Bool, true, false, List, [], ◌∷◌, ◌++◌, Option, Some, None, refl, sym, ap, subst, ◌∙◌, inl, inr}
use Rattle.outer_world.specs.Files.{Files, HasFile, IsListing, has_name, has_slash}
use Rattle.outer_world.specs.Refusals.{message_line}
use Rattle.grammar.specs.declared.Fault.{Fault}
use Rattle.grammar.specs.Faults.{diagnostic_of}
use Rattle.hdl_tree.specs.declared.library.Entry.{Entry}
use Rattle.hdl_tree.specs.declared.ends.Memories.{Memories}
use Rattle.hdl_tree.specs.Chips.{find_entry}
use Rattle.hdl_parser.specs.Spells.{ReadingLaw, Spells, Refuses}
use Rattle.hack_cpu.specs.Library.{shipped_chips}
use Rattle.tst_runner.specs.Setting.{Setting, folder, setting_of}
use Rattle.tst_runner.specs.Gathering.{Sources, Gather, GatherFails, IsFound, IsRefused, IsTaken, entry_of, file_of, here, is_in_folder, later, needed_names, no_more, one_more}
use Rattle.tst_runner.specs.Gathering as gathering
use Rattle.tst_runner.specs.Loading.{HasFailed, HasGathered, HasSources}

-- where chips are found among known files
abbrev pub known : List Entry → Memories → Files → List ℕ → List (List ℕ) → Sources
known shipped memories told place names = record { shipped = shipped; memories = memories; files = Some told; folder = place; names = names }

pub same_text : (told : Files) (path text other : List ℕ) → HasFile (Some told) path text → HasFile (Some told) path other → text ≡ other
same_text told path text other h k = cc

-- ---- one gathering, turned round

record IsMore (from : Sources) (name : List ℕ) (names : List (List ℕ)) (entries all : List Entry) : Type 0 where
  next : List (List ℕ)
  after : List Entry
  taken : IsTaken from name entries next after
  rest : Gather from (next ++ names) after all

more_of : (from : Sources) (name : List ℕ) (names : List (List ℕ)) (entries all : List Entry) → Gather from (name ∷ names) entries all → IsMore from name names entries all
more_of from name names entries all (one_more {entries' = after} next taken rest) = record { next = next; after = after; taken = taken; rest = rest }

done_of : (from : Sources) (entries all : List Entry) → Gather from [] entries all → entries ≡ all
done_of from entries all no_more = refl

record IsLater (from : Sources) (name : List ℕ) (names : List (List ℕ)) (entries : List Entry) (line : List ℕ) : Type 0 where
  next : List (List ℕ)
  after : List Entry
  taken : IsTaken from name entries next after
  rest : GatherFails from (next ++ names) after line

fails_of : (from : Sources) (name : List ℕ) (names : List (List ℕ)) (entries : List Entry) (line : List ℕ) → GatherFails from (name ∷ names) entries line → IsRefused from name entries line ⊎ IsLater from name names entries line
fails_of from name names entries line (here refused) = inl refused
fails_of from name names entries line (later {entries' = after} next taken rest) = inr (record { next = next; after = after; taken = taken; rest = rest })

-- ---- one name

module _ (law : ReadingLaw) (shipped : List Entry) (memories : Memories) (told : Files) (place : List ℕ) (names names' : List (List ℕ)) (same : (name : List ℕ) → has_name names name ≡ has_name names' name) where
  abbrev F : Sources
  F = known shipped memories told place names

  abbrev F' : Sources
  F' = known shipped memories told place names'

  both_ways : (name : List ℕ) → is_in_folder F name ≡ true → is_in_folder F' name ≡ false → ⊥
  both_ways name h k = let s = same (file_of name) in let no : true ≡ false = sym h ∙ s ∙ k in absurd cc

  both_back : (name : List ℕ) → is_in_folder F name ≡ false → is_in_folder F' name ≡ true → ⊥
  both_back name h k = let s = same (file_of name) in let no : true ≡ false = sym k ∙ sym s ∙ h in absurd cc

  one_found : (name : List ℕ) (entry other : Entry) → IsFound F name entry → IsFound F' name other → entry ≡ other
  one_found name entry other (inl (there, (text, chip, has, spells, is))) (inl (there', (text', chip', has', spells', is'))) =
      let e = same_text told (gathering.path_of F name) text' text has' has in
      let c = (law text).one chip chip' spells (subst (λ (t : List ℕ). Spells t chip') e spells') in
      is ∙ ap (entry_of shipped name) c ∙ sym is'
  one_found name entry other (inl (there, found)) (inr (there', found')) = absurd (both_ways name there there')
  one_found name entry other (inr (there, found)) (inl (there', found')) = absurd (both_back name there there')
  one_found name entry other (inr (there, found)) (inr (there', found')) = let one : Some entry ≡ Some other = sym found ∙ found' in cc

  none_found : (name : List ℕ) (entry : Entry) → IsFound F name entry → is_in_folder F' name ≡ false → find_entry shipped name ≡ None → ⊥
  none_found name entry (inl (there, found)) there' none = both_ways name there there'
  none_found name entry (inr (there, found)) there' none = let no : Some entry ≡ None = sym found ∙ none in absurd cc

  found_none : (name : List ℕ) (entry : Entry) → IsFound F' name entry → is_in_folder F name ≡ false → find_entry shipped name ≡ None → ⊥
  found_none name entry (inl (there, found)) there' none = both_back name there' there
  found_none name entry (inr (there, found)) there' none = let no : Some entry ≡ None = sym found ∙ none in absurd cc

  known_new : (entries : List Entry) (name : List ℕ) (entry : Entry) → find_entry entries name ≡ Some entry → find_entry entries name ≡ None → ⊥
  known_new entries name entry h k = let no : Some entry ≡ None = sym h ∙ k in absurd cc

  one_taken : (name : List ℕ) (entries : List Entry) (next next' : List (List ℕ)) (after after' : List Entry) → IsTaken F name entries next after → IsTaken F' name entries next' after' → (next ≡ next') × (after ≡ after')
  one_taken name entries next next' after after' (inl (entry, found, n, a)) (inl (entry', found', n', a')) = (n ∙ sym n', a ∙ sym a')
  one_taken name entries next next' after after' (inl (entry, found, n, a)) (inr (inl (new, more))) = absurd (known_new entries name entry found new)
  one_taken name entries next next' after after' (inl (entry, found, n, a)) (inr (inr (new, there, none, n', a'))) = absurd (known_new entries name entry found new)
  one_taken name entries next next' after after' (inr (inl (new, more))) (inl (entry, found, n, a)) = absurd (known_new entries name entry found new)
  one_taken name entries next next' after after' (inr (inr (new, there, none, n', a'))) (inl (entry, found, n, a)) = absurd (known_new entries name entry found new)
  one_taken name entries next next' after after' (inr (inl (new, (entry, is, n, a)))) (inr (inl (new', (entry', is', n', a')))) =
      let e = one_found name entry entry' is is' in
      (n ∙ ap (needed_names memories) e ∙ sym n', a ∙ ap (λ (x : Entry). entries ++ x ∷ []) e ∙ sym a')
  one_taken name entries next next' after after' (inr (inl (new, (entry, is, n, a)))) (inr (inr (new', there', none', n', a'))) = absurd (none_found name entry is there' none')
  one_taken name entries next next' after after' (inr (inr (new, there, none, n, a))) (inr (inl (new', (entry', is', n', a')))) = absurd (found_none name entry' is' there none)
  one_taken name entries next next' after after' (inr (inr (new, there, none, n, a))) (inr (inr (new', there', none', n', a'))) = (n ∙ sym n', a ∙ sym a')

  taken_refused : (name : List ℕ) (entries : List Entry) (next : List (List ℕ)) (after : List Entry) (line : List ℕ) → IsTaken F name entries next after → IsRefused F' name entries line → ⊥
  taken_refused name entries next after line (inl (entry, found, n, a)) (new, there', more) = known_new entries name entry found new
  taken_refused name entries next after line (inr (inl (new, (entry, inl (there, (text, chip, has, spells, is)), n, a)))) (new', there', (text', fault, has', refuses, tells)) =
      let e = same_text told (gathering.path_of F name) text' text has' has in
      (law text).not_both chip fault spells (subst (λ (t : List ℕ). Refuses t fault) e refuses)
  taken_refused name entries next after line (inr (inl (new, (entry, inr (there, found), n, a)))) (new', there', more) = both_back name there there'
  taken_refused name entries next after line (inr (inr (new, there, none, n, a))) (new', there', more') = both_back name there there'

  one_refused : (name : List ℕ) (entries : List Entry) (line line' : List ℕ) → IsRefused F name entries line → IsRefused F' name entries line' → line ≡ line'
  one_refused name entries line line' (new, there, (text, fault, has, refuses, tells)) (new', there', (text', fault', has', refuses', tells')) =
      let e = same_text told (gathering.path_of F name) text' text has' has in
      let f = (law text).one_fault fault fault' refuses (subst (λ (t : List ℕ). Refuses t fault') e refuses') in
      tells ∙ ap (λ (x : Fault). message_line (gathering.path_of F name) (diagnostic_of x)) f ∙ sym tells'

-- ---- all that is gathered

module _ (law : ReadingLaw) (shipped : List Entry) (memories : Memories) (told : Files) (place : List ℕ) (names names' : List (List ℕ)) (same : (name : List ℕ) → has_name names name ≡ has_name names' name) where
  abbrev G : Sources
  G = known shipped memories told place names

  abbrev G' : Sources
  G' = known shipped memories told place names'

  moved : (next next' : List (List ℕ)) (after after' : List Entry) (ns : List (List ℕ)) (P : List (List ℕ) → List Entry → Type 0) → (next ≡ next') × (after ≡ after') → P (next' ++ ns) after' → P (next ++ ns) after
  moved next next' after after' ns P e h = subst (λ (x : List (List ℕ)). P (x ++ ns) after) (sym e.0) (subst (λ (x : List Entry). P (next' ++ ns) x) (sym e.1) h)

  one_gathered : (ns : List (List ℕ)) (entries all all' : List Entry) → Gather G ns entries all → Gather G' ns entries all' → all ≡ all'
  one_gathered ns entries all all' no_more h = done_of G' entries all' h
  one_gathered ns entries all all' (one_more {name = name} {names = rest_names} {entries' = after} next taken rest) h =
      let m = more_of G' name rest_names entries all' h in
      let s = one_taken law shipped memories told place names names' same name entries next m.next after m.after taken m.taken in
      one_gathered (next ++ rest_names) after all all' rest (moved next m.next after m.after rest_names (λ x y. Gather G' x y all') s m.rest)

  failed_gathered : (ns : List (List ℕ)) (entries all : List Entry) (line : List ℕ) → GatherFails G ns entries line → Gather G' ns entries all → ⊥
  failed_gathered ns entries all line (here {name = name} {names = rest_names} refused) h =
      let m = more_of G' name rest_names entries all h in
      taken_refused law shipped memories told place names' names (λ n. sym (same n)) name entries m.next m.after line m.taken refused
  failed_gathered ns entries all line (later {name = name} {names = rest_names} {entries' = after} next taken rest) h =
      let m = more_of G' name rest_names entries all h in
      let s = one_taken law shipped memories told place names names' same name entries next m.next after m.after taken m.taken in
      failed_gathered (next ++ rest_names) after all line rest (moved next m.next after m.after rest_names (λ x y. Gather G' x y all) s m.rest)

  fail_by : (name : List ℕ) (rest_names : List (List ℕ)) (entries : List Entry) (line line' : List ℕ) → IsRefused G name entries line → IsRefused G' name entries line' ⊎ IsLater G' name rest_names entries line' → line ≡ line'
  fail_by name rest_names entries line line' refused (inl refused') = one_refused law shipped memories told place names names' same name entries line line' refused refused'
  fail_by name rest_names entries line line' refused (inr m) = absurd (taken_refused law shipped memories told place names' names (λ n. sym (same n)) name entries m.next m.after line m.taken refused)

  later_by : (name : List ℕ) (rest_names : List (List ℕ)) (entries after : List Entry) (next : List (List ℕ)) (line line' : List ℕ) → IsTaken G name entries next after → (GatherFails G' (next ++ rest_names) after line' → line ≡ line') → IsRefused G' name entries line' ⊎ IsLater G' name rest_names entries line' → line ≡ line'
  later_by name rest_names entries after next line line' taken go (inl refused') = absurd (taken_refused law shipped memories told place names names' same name entries next after line' taken refused')
  later_by name rest_names entries after next line line' taken go (inr m) =
      let s = one_taken law shipped memories told place names names' same name entries next m.next after m.after taken m.taken in
      go (moved next m.next after m.after rest_names (λ x y. GatherFails G' x y line') s m.rest)

  one_failed : (ns : List (List ℕ)) (entries : List Entry) (line line' : List ℕ) → GatherFails G ns entries line → GatherFails G' ns entries line' → line ≡ line'
  one_failed ns entries line line' (here {name = name} {names = rest_names} refused) h = fail_by name rest_names entries line line' refused (fails_of G' name rest_names entries line' h)
  one_failed ns entries line line' (later {name = name} {names = rest_names} {entries' = after} next taken rest) h =
      later_by name rest_names entries after next line line' taken (λ k. one_failed (next ++ rest_names) after line line' rest k) (fails_of G' name rest_names entries line' h)

-- ---- over known files

names_by : (told : Files) (place : List ℕ) (names names' : List (List ℕ)) → IsListing told place names → IsListing told place names' → (name : List ℕ) (b : Bool) → has_slash name ≡ b → has_name names name ≡ has_name names' name
names_by told place names names' h k name false e = h.each name e ∙ sym (k.each name e)
names_by told place names names' h k name true e = by (has_name names name) (has_name names' name) refl refl
  where
    by : (x y : Bool) → has_name names name ≡ x → has_name names' name ≡ y → x ≡ y
    by true true f g = refl
    by false false f g = refl
    by true false f g = let no : true ≡ false = sym e ∙ h.no_slash name f in absurd cc
    by false true f g = let no : true ≡ false = sym e ∙ k.no_slash name g in absurd cc

module _ (law : ReadingLaw) (path : List ℕ) (told : Files) (memories : Memories) where
  abbrev S : Setting
  S = setting_of path (Some told) memories

  is_known : (from : Sources) → HasSources S from → from ≡ known shipped_chips memories told (folder S) from.names
  is_known from h =
      ap (λ (x : List Entry). record { shipped = x; memories = from.memories; files = from.files; folder = from.folder; names = from.names }) h.shipped
      ∙ ap (λ (x : Memories). record { shipped = shipped_chips; memories = x; files = from.files; folder = from.folder; names = from.names }) h.memories
      ∙ ap (λ (x : Option Files). record { shipped = shipped_chips; memories = memories; files = x; folder = from.folder; names = from.names }) h.files
      ∙ ap (λ (x : List ℕ). record { shipped = shipped_chips; memories = memories; files = Some told; folder = x; names = from.names }) h.beside

  same_names : (from from' : Sources) → HasSources S from → HasSources S from' → (name : List ℕ) → has_name from.names name ≡ has_name from'.names name
  same_names from from' h k name = names_by told (folder S) from.names from'.names h.listed k.listed name (has_slash name) refl

  pub one_library : (name : List ℕ) (entries entries' : List Entry) → HasGathered S name entries → HasGathered S name entries' → entries ≡ entries'
  one_library name entries entries' (from, h, g) (from', k, g') =
      one_gathered law shipped_chips memories told (folder S) from.names from'.names (same_names from from' h k) (name ∷ []) [] entries entries'
      (subst (λ (x : Sources). Gather x (name ∷ []) [] entries) (is_known from h) g) (subst (λ (x : Sources). Gather x (name ∷ []) [] entries') (is_known from' k) g')

  pub not_both_ways : (name : List ℕ) (entries : List Entry) (line : List ℕ) → HasGathered S name entries → HasFailed S name line → ⊥
  not_both_ways name entries line (from, h, g) (from', k, f) =
      failed_gathered law shipped_chips memories told (folder S) from'.names from.names (same_names from' from k h) (name ∷ []) [] entries line
      (subst (λ (x : Sources). GatherFails x (name ∷ []) [] line) (is_known from' k) f) (subst (λ (x : Sources). Gather x (name ∷ []) [] entries) (is_known from h) g)

  pub one_failure : (name line line' : List ℕ) → HasFailed S name line → HasFailed S name line' → line ≡ line'
  one_failure name line line' (from, h, f) (from', k, f') =
      one_failed law shipped_chips memories told (folder S) from.names from'.names (same_names from from' h k) (name ∷ []) [] line line'
      (subst (λ (x : Sources). GatherFails x (name ∷ []) [] line) (is_known from h) f) (subst (λ (x : Sources). GatherFails x (name ∷ []) [] line') (is_known from' k) f')
