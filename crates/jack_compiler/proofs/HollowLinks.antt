-- Linking sees only the commands of what it reaches: it answers for a program of which the rest is hollow what it answers for the whole program.
use Rattle.std.proofs.Common.{◌≡◌, ◌+◌, ◌<◌, ℕ, zero, suc, Bool, true, false, cond, List, [], ◌∷◌, Option, Some, None, option_map, length, drop, refl, sym, ap, subst, ◌∙◌, arith, slice_get, ◌||◌, ◌++◌, if◌then◌else◌}
use Rattle.std.specs.Prelude.{Result}
use Rattle.std.specs.List.{list_any, position_from}
use Rattle.std.specs.Option.{option_or}
use Rattle.std.specs.Str.{bytes_eq}
use Rattle.vm_tree.specs.declared.command.Line.{Line}
use Rattle.vm_tree.specs.declared.program.File.{File}
use Rattle.vm_link.specs.declared.fault.LinkFault.{LinkFault}
use Rattle.vm_link.specs.declared.fault.LinkFault.TheVariants.{NoFunction, TwiceDefined, LabelTwice, NoLabel, NoSysInit}
use Rattle.vm_link.specs.declared.linked.Linked.{Linked}
use Rattle.vm_link.specs.Sections.{Section, is_named, called_name, sections}
use Rattle.vm_link.specs.Faults as faults
use Rattle.vm_link.specs.Faults.{sys_init, first_of, first_repeat, label_twice, no_label, lacking, no_start, kept_fault, text_fault, too_many, words_before}
use Rattle.vm_link.specs.Inner.Marks.{is_marked}
use Rattle.vm_link.specs.Reached as reached_by
use Rattle.vm_link.specs.Reached.{Reached, Keeps, none, kept, dropped, IsFunction, AreKept}
use Rattle.vm_link.specs.Resolved as resolved_files
use Rattle.vm_link.specs.Resolved.{linked_of}
use Rattle.vm_link.specs.Links.{Links, memory, faulty, kept_faulty, whole}
use Rattle.jack_meaning.specs.Text.{Subroutine, Class, Program}
use Rattle.jack_core.specs.declared.program.Core.{Core}
use Rattle.jack_core.specs.Texts.{the_program, names_of, class_names_of}
use Rattle.jack_compiler.specs.Files.{name_at, files_from, program_files, files_of}
use Rattle.jack_compiler.specs.Resolved.{AreInOrder, IsResolved, IsResolvedCore}
use Rattle.jack_compiler.specs.Inner.Searched.{AreLinked}
use Rattle.jack_compiler.specs.Inner.Hollow.{whole_if, whole_where, hollow_program, hollow_files}
use Rattle.jack_compiler.proofs.Sectioned.{AreUnder, section_of, sections_of, sections_are}
use Rattle.jack_compiler.proofs.Resolving.{all, under, text_none}
use Rattle.jack_compiler.proofs.Reaching.{reached_linked}
use Rattle.jack_compiler.proofs.Hollow.{whole_rest, whole_ordered, whole_under}

some_same : {A : Type 0} {x y : A} → Some x ≡ Some y → x ≡ y
some_same {A} {x} {y} e = cc

-- no fault of any kind
or_first : {A : Type 0} (o p : Option A) → option_or o p ≡ None → o ≡ None
or_first None p e = refl
or_first (Some x) p e = absurd cc

or_second : {A : Type 0} (o p : Option A) → option_or o p ≡ None → p ≡ None
or_second None p e = e
or_second (Some x) p e = absurd cc

map_none : {A B : Type 0} (f : A → B) (o : Option A) → option_map f o ≡ None → o ≡ None
map_none f None e = refl
map_none f (Some x) e = absurd cc

-- what is kept of lists of sections that are the same where something is reached
keeps_same : (P Q : ℕ → Type 0) → ((i : ℕ) → P i → Q i) → ((i : ℕ) → Q i → P i) → {at : ℕ} {xs ks : List Section} → Keeps P at xs ks → (ys : List Section) → length xs ≡ length ys
    → ((j : ℕ) → Q (at + j) → slice_get xs j ≡ slice_get ys j) → Keeps Q at ys ks
keeps_same P Q f b none [] l same = none
keeps_same P Q f b none (x ∷ ys) l same = absurd (omega arith)
keeps_same P Q f b (kept p r) [] l same = absurd (omega arith)
keeps_same P Q f b (kept {i = at} {s = s} {ks = ks} p r) (x ∷ ys) l same =
    let e : s ≡ x = some_same (same 0 (let z : at ≡ at + 0 = omega arith in subst Q z (f at p))) in
    subst (λ z. Keeps Q at (z ∷ ys) (s ∷ ks)) e
    (kept (f at p) (keeps_same P Q f b r ys (omega arith) (λ j q. same (suc j) (let z : suc at + j ≡ at + suc j = omega arith in subst Q z q))))
keeps_same P Q f b (dropped p r) [] l same = absurd (omega arith)
keeps_same P Q f b (dropped {i = at} p r) (x ∷ ys) l same =
    dropped (λ q. p (b at q)) (keeps_same P Q f b r ys (omega arith) (λ j q. same (suc j) (let z : suc at + j ≡ at + suc j = omega arith in subst Q z q)))

module _ (program : Program) (names class_names : List (List ℕ)) (marks : List Bool) where
  abbrev hollow : Program
  hollow = hollow_program marks program

  sections_alike : (g : ℕ) (xs : List Subroutine) → sections_of hollow names g xs ≡ sections_of program names g xs
  sections_alike g [] = refl
  sections_alike g (x ∷ xs) = ap (λ z. section_of program names g x ∷ z) (sections_alike (g + 1) xs)

  abbrev hollows : ℕ → List Subroutine → List Section
  hollows g xs = sections_of program names g (whole_where (Some marks) g xs)

  length_alike : (g : ℕ) (xs : List Subroutine) → length (hollows g xs) ≡ length (sections_of program names g xs)
  length_alike g [] = refl
  length_alike g (x ∷ xs) = ap suc (length_alike (g + 1) xs)

  -- names and places are the same
  position_alike : (name : List ℕ) (at g : ℕ) (xs : List Subroutine) → position_from (is_named name) at (hollows g xs) ≡ position_from (is_named name) at (sections_of program names g xs)
  position_alike name at g [] = refl
  position_alike name at g (x ∷ xs) = ap (λ z. cond (bytes_eq name (name_at names g)) (Some at) z) (position_alike name (at + 1) (g + 1) xs)

  any_alike : (name : List ℕ) (g : ℕ) (xs : List Subroutine) → list_any (is_named name) (hollows g xs) ≡ list_any (is_named name) (sections_of program names g xs)
  any_alike name g [] = refl
  any_alike name g (x ∷ xs) = ap (λ z. bytes_eq name (name_at names g) || z) (any_alike name (g + 1) xs)

  names_alike : (g : ℕ) (xs : List Subroutine) → faults.names (hollows g xs) ≡ faults.names (sections_of program names g xs)
  names_alike g [] = refl
  names_alike g (x ∷ xs) = ap (λ z. name_at names g ∷ z) (names_alike (g + 1) xs)

  -- commands too, where there is a mark
  same_at : (g : ℕ) (xs : List Subroutine) (i : ℕ) → (i < length xs → is_marked marks (g + i) ≡ true) → slice_get (hollows g xs) i ≡ slice_get (sections_of program names g xs) i
  same_at g [] i h = refl
  same_at g (x ∷ xs) zero h =
      ap (λ b. Some (section_of program names g (whole_if b x))) (ap (is_marked marks) (let z : g ≡ g + 0 = omega arith in z) ∙ h (omega arith))
  same_at g (x ∷ xs) (suc i) h = same_at (g + 1) xs i (λ b. ap (is_marked marks) (let z : g + 1 + i ≡ g + suc i = omega arith in z) ∙ h (omega arith))

  -- a fault that no section has, and none without commands
  first_alike : (f : Section → Option (List ℕ)) → ((g : ℕ) (x : Subroutine) → f (section_of program names g (whole_if false x)) ≡ None) → (g : ℕ) (xs : List Subroutine)
      → first_of f (sections_of program names g xs) ≡ None → first_of f (hollows g xs) ≡ None
  first_alike f h g [] e = refl
  first_alike f h g (x ∷ xs) e =
      let rest = first_alike f h (g + 1) xs (or_second (f (section_of program names g x)) (first_of f (sections_of program names (g + 1) xs)) e) in
      ap (λ z. option_or z (first_of f (hollows (g + 1) xs))) (by_test (is_marked marks g) (or_first (f (section_of program names g x)) (first_of f (sections_of program names (g + 1) xs)) e)) ∙ rest
    where
      by_test : (b : Bool) → f (section_of program names g x) ≡ None → f (section_of program names g (whole_if b x)) ≡ None
      by_test true e = e
      by_test false e = h g x

  text_alike : (g : ℕ) (xs : List Subroutine) → text_fault false (sections_of program names g xs) ≡ None → text_fault false (hollows g xs) ≡ None
  text_alike g xs e =
      let twice = option_map TwiceDefined (first_repeat (faults.names (sections_of program names g xs))) in
      let labels = option_map LabelTwice (first_of label_twice (sections_of program names g xs)) in
      let lacks = option_map NoLabel (first_of no_label (sections_of program names g xs)) in
      let start = no_start false (sections_of program names g xs) in
      let e2 = or_second twice (option_or labels (option_or lacks start)) e in
      let e3 = or_second labels (option_or lacks start) e2 in
      let a = ap first_repeat (names_alike g xs) ∙ map_none TwiceDefined (first_repeat (faults.names (sections_of program names g xs))) (or_first twice (option_or labels (option_or lacks start)) e) in
      let b = first_alike label_twice (λ g x. refl) g xs (map_none LabelTwice (first_of label_twice (sections_of program names g xs)) (or_first labels (option_or lacks start) e2)) in
      let c = first_alike no_label (λ g x. refl) g xs (map_none NoLabel (first_of no_label (sections_of program names g xs)) (or_first lacks start e3)) in
      ap (λ o. option_or (option_map TwiceDefined o) (option_or (option_map LabelTwice (first_of label_twice (hollows g xs))) (option_or (option_map NoLabel (first_of no_label (hollows g xs))) (no_start false (hollows g xs))))) a
      ∙ ap (λ o. option_or (option_map LabelTwice o) (option_or (option_map NoLabel (first_of no_label (hollows g xs))) (no_start false (hollows g xs)))) b
      ∙ ap (λ o. option_or (option_map NoLabel o) (no_start false (hollows g xs))) c
      ∙ ap (λ z. if z then None else Some NoSysInit) (any_alike sys_init g xs)
      ∙ or_second lacks start e3

  kept_alike : (n g : ℕ) (xs : List Subroutine) (ks : List Section) → kept_fault n (hollows g xs) ks ≡ kept_fault n (sections_of program names g xs) ks
  kept_alike n g xs ks =
      let there : (λ f. list_any (is_named f) (hollows g xs)) ≡ (λ f. list_any (is_named f) (sections_of program names g xs)) = λ i f. any_alike f g xs i in
      ap (λ (q : List ℕ → Bool). option_or (option_map NoFunction (first_of (λ (s : Section). first_of (λ (x : Line). lacking q (called_name x.command)) s.lines) ks)) (too_many (words_before ks n))) there

  -- the files have the same names
  length_files : (k : ℕ) (cs : List Class) → length (files_from hollow names class_names k cs) ≡ length (files_from program names class_names k cs)
  length_files k [] = refl
  length_files k (c ∷ cs) = ap suc (length_files (k + 1) cs)

  files_alike : (ks : List Section) (k : ℕ) (cs : List Class)
      → resolved_files.files_from ks k (files_from hollow names class_names k cs) ≡ resolved_files.files_from ks k (files_from program names class_names k cs)
  files_alike ks k [] = refl
  files_alike ks k (c ∷ cs) = ap (λ z. resolved_files.files_from ks k (files_from program names class_names k (c ∷ [])) ++ z) (files_alike ks (k + 1) cs)

  module _ (resolved : IsResolved program names) (linked_are : AreLinked program marks) where
    abbrev ss : List Section
    ss = all program names resolved

    abbrev hs : List Section
    hs = hollows 1 (drop 1 program.subroutines)

    whole_is : sections false (program_files program names class_names) ≡ ss
    whole_is = sections_are program names class_names resolved.order (under program names resolved)

    hollow_is : sections false (program_files hollow names class_names) ≡ hs
    hollow_is =
        sections_are hollow names class_names
        (subst (AreInOrder 0) (sym (whole_rest (Some marks) program.subroutines)) (whole_ordered (Some marks) 1 0 (drop 1 program.subroutines) resolved.order))
        (subst (AreUnder (length program.classes)) (sym (whole_rest (Some marks) program.subroutines)) (whole_under (Some marks) 1 (length program.classes) (drop 1 program.subroutines) (under program names resolved)))
        ∙ sections_alike 1 (drop 1 hollow.subroutines) ∙ ap (sections_of program names 1) (whole_rest (Some marks) program.subroutines)

    -- what is reached has its commands
    same_reached : (i : ℕ) → Reached ss i → slice_get hs i ≡ slice_get ss i
    same_reached i r =
        let linked_of = reached_linked program names resolved i r in
        same_at 1 (drop 1 program.subroutines) i (λ b. linked_are.all (1 + i) (within program.subroutines b) linked_of)
      where
        within : (xs : List Subroutine) → i < length (drop 1 xs) → 1 + i < length xs
        within [] b = absurd (omega arith)
        within (x ∷ xs) b = omega arith

    function_alike : (name : List ℕ) (i : ℕ) → IsFunction hs name i → IsFunction ss name i
    function_alike name i f = sym (position_alike name 0 1 (drop 1 program.subroutines)) ∙ f

    function_back : (name : List ℕ) (i : ℕ) → IsFunction ss name i → IsFunction hs name i
    function_back name i f = position_alike name 0 1 (drop 1 program.subroutines) ∙ f

    to_whole : (i : ℕ) → Reached hs i → Reached ss i
    to_whole i (reached_by.start f) = reached_by.start (function_alike sys_init i f)
    to_whole i (reached_by.called {i = j} s name r e stands f) =
        let before = to_whole j r in
        reached_by.called s name before (sym (same_reached j before) ∙ e) stands (function_alike name i f)

    to_hollow : (i : ℕ) → Reached ss i → Reached hs i
    to_hollow i (reached_by.start f) = reached_by.start (function_back sys_init i f)
    to_hollow i (reached_by.called {i = j} s name r e stands f) = reached_by.called s name (to_hollow j r) (same_reached j r ∙ e) stands (function_back name i f)

    kept_whole : (ks : List Section) → AreKept false (sections false (program_files hollow names class_names)) ks → AreKept false (sections false (program_files program names class_names)) ks
    kept_whole ks k =
        let h : Keeps (Reached hs) 0 hs ks = subst (λ z. AreKept false z ks) hollow_is k in
        subst (λ z. AreKept false z ks) (sym whole_is)
        (keeps_same (Reached hs) (Reached ss) to_whole to_hollow h ss (length_alike 1 (drop 1 program.subroutines))
        (λ j r. same_reached j (let z : 0 + j ≡ j = omega arith in subst (Reached ss) z r)))

    no_text_fault : text_fault false (sections false (program_files hollow names class_names)) ≡ None
    no_text_fault = ap (text_fault false) hollow_is ∙ text_alike 1 (drop 1 program.subroutines) (text_none program names resolved)

    whole_text : text_fault false (sections false (program_files program names class_names)) ≡ None
    whole_text = ap (text_fault false) whole_is ∙ text_none program names resolved

    fault_alike : (ks : List Section) → kept_fault (length (program_files program names class_names)) (sections false (program_files program names class_names)) ks
        ≡ kept_fault (length (program_files hollow names class_names)) (sections false (program_files hollow names class_names)) ks
    fault_alike ks =
        ap (λ z. kept_fault (length (program_files program names class_names)) z ks) whole_is
        ∙ sym (kept_alike (length (program_files program names class_names)) 1 (drop 1 program.subroutines) ks)
        ∙ ap (λ z. kept_fault (length (program_files program names class_names)) z ks) (sym hollow_is)
        ∙ ap (λ (z : ℕ). kept_fault z (sections false (program_files hollow names class_names)) ks) (sym (length_files 0 program.classes))

    linked_alike : (ks : List Section) → linked_of false (program_files hollow names class_names) ks ≡ linked_of false (program_files program names class_names) ks
    linked_alike ks = ap (λ z. record (linked_of false (program_files program names class_names) ks) { files = z }) (files_alike ks 0 program.classes)

    links_whole : (r : Result Linked LinkFault) → Links false (program_files hollow names class_names) r → Links false (program_files program names class_names) r
    links_whole r memory = memory
    links_whole r (faulty {f = f} e) = let no : None ≡ Some f = sym no_text_fault ∙ e in absurd cc
    links_whole r (kept_faulty ks text k e) = kept_faulty ks whole_text (kept_whole ks k) (fault_alike ks ∙ e)
    links_whole r (whole ks text k n e) = whole ks whole_text (kept_whole ks k) (fault_alike ks ∙ n) (e ∙ linked_alike ks)

pub links_of : (core : Core) (marks : List Bool) (fs : List File) (r : Result Linked LinkFault) → IsResolvedCore core → AreLinked (the_program core) marks → fs ≡ hollow_files marks core
    → Links false fs r → Links false (files_of core) r
links_of core marks fs r resolved linked_of e h =
    links_whole (the_program core) (names_of core) (class_names_of core) marks resolved linked_of r (subst (λ z. Links false z r) e h)
