-- What a script loads is one thing. Two loads of one file give two elaborations of one chip, and a load is not refused, too. It is refused with one
-- line, but for the nets of a loop.
use Rattle.std.proofs.Common.{◌≡◌, ◌⊎◌, ◌-◌, ℕ, Bool, true, false, cond, List, [], ◌∷◌, ◌++◌, length, drop, Option, Some, None, Ok, Err, refl, sym, ap, subst, ◌∙◌, inl, inr, arith}
use Rattle.std.specs.Prelude.{codes, decimal}
use Rattle.std.specs.Str.{bytes_eq}
use Rattle.std.specs.Cmp.Lexicographic.{bytes_decides}
use Rattle.std.proofs.lemmas.List.{append_cancel_right, drop_at, length-append}
use Rattle.outer_world.specs.Files.{Files}
use Rattle.outer_world.specs.Refusals.{Message, message, message_line}
use Rattle.hack_asm.specs.HackText as image
use Rattle.hack_asm.specs.Meaning as assembly
use Rattle.hack_asm.specs.Messages.{asm_message}
use Rattle.hack_asm.specs.Language.{RefusesWords, wrong_message}
use Rattle.hack_asm.specs.declared.language.Form.TheVariants.{Assembly, Image}
use Rattle.hack_asm.specs.declared.fault.AsmFault.{AsmFault}
use Rattle.hack_asm.proofs.Refusals.{refused_words}
use Rattle.netlist.specs.Net.{Net}
use Rattle.netlist.specs.Order.{AreOrdered}
use Rattle.hdl_tree.specs.declared.tree.Chip.{Chip}
use Rattle.hdl_tree.specs.declared.tree.Body.{Body}
use Rattle.hdl_tree.specs.declared.tree.Body.TheVariants as body
use Rattle.hdl_tree.specs.declared.library.Entry.{Entry}
use Rattle.hdl_tree.specs.declared.ends.Memories.{Memories}
use Rattle.hdl_tree.specs.Chips.{Chips, find_entry}
use Rattle.hdl_tree.specs.Writable.{chip_can}
use Rattle.hdl_check.specs.Messages.{named_message}
use Rattle.hdl_check.specs.declared.fault.NamedFault.{NamedFault}
use Rattle.hdl_check.specs.Whole.{chips_in}
use Rattle.hdl_check.proofs.Order.{not_both, one_first}
use Rattle.hdl_parser.specs.Spells.{ReadingLaw}
use Rattle.hdl_parser.proofs.Readable.{spelled_can}
use Rattle.hack_cpu.specs.Library.{shipped_chips}
use Rattle.hack_cpu.specs.Libraries.{IsLibrary}
use Rattle.hack_cpu.proofs.Libraries.{libraries}
use Rattle.hack_cpu.proofs.Printed.{found_printed}
use Rattle.hdl_flatten.specs.Ends.{EndsHavePins}
use Rattle.hdl_flatten.specs.Trees.{PartIn, capped_count, node_count}
use Rattle.hdl_elab.specs.declared.put.Elab.{Elab}
use Rattle.hdl_elab.specs.declared.fault.ElaborationFault.{ElaborationFault}
use Rattle.hdl_elab.specs.declared.fault.ElaborationFault.TheVariants as faults
use Rattle.hdl_elab.specs.Elaborated.{IsElaborated}
use Rattle.hdl_elab.specs.Faults.{IsFaultOf, IsFine}
use Rattle.hdl_elab.specs.Sound.{HasNoFault}
use Rattle.hdl_elab.proofs.Trees.{one_tree}
use Rattle.script_device.specs.Directory.{LoadedChip}
use Rattle.script_parser.specs.Numbers.{ends_in}
use Rattle.tst_runner.specs.Setting.{Setting, path_of, setting_of}
use Rattle.tst_runner.specs.Gathering.{Sources, Gather, IsFound, IsTaken, built_in, entry_with, file_of, no_more, one_more}
use Rattle.tst_runner.specs.Loading.{HasFailed, HasGathered, IsBuilt, IsFaultLine, IsFaulty, IsImage, IsLoaded, IsNoImage, IsNotLoaded, IsProgram, IsUnknown, RefusesImage, SpellsImage, path_of_text}
use Rattle.tst_runner.specs.Directories.{IsDirectory}
use Rattle.tst_runner.proofs.Sounding.{found_good}
use Rattle.script_laws.specs.Exact.{SameButNets}
use Rattle.script_laws.proofs.Gathered.{not_both_ways, one_failure, one_library, same_text}

-- ---- chips that are gathered

-- each is of a form that texts can have
abbrev pub AreWritable : List Entry → Type 0
AreWritable entries = (name : List ℕ) (entry : Entry) → find_entry entries name ≡ Some entry → chip_can entry.chip ≡ true

found_later : (entries : List Entry) (last : Entry) (name : List ℕ) (entry : Entry) → find_entry (entries ++ last ∷ []) name ≡ Some entry → (find_entry entries name ≡ Some entry) ⊎ (last ≡ entry)
found_later [] last name entry h = by (bytes_eq name last.name) h
  where
    by : (b : Bool) → cond b (Some last) None ≡ Some entry → (find_entry [] name ≡ Some entry) ⊎ (last ≡ entry)
    by true e = inr cc
    by false e = absurd cc
found_later (x ∷ entries) last name entry h = by (bytes_eq name x.name) h (found_later entries last name entry)
  where
    by : (b : Bool) → cond b (Some x) (find_entry (entries ++ last ∷ []) name) ≡ Some entry → (find_entry (entries ++ last ∷ []) name ≡ Some entry → (find_entry entries name ≡ Some entry) ⊎ (last ≡ entry)) → (cond b (Some x) (find_entry entries name) ≡ Some entry) ⊎ (last ≡ entry)
    by true e go = inl e
    by false e go = go e

built_can : (name own : List ℕ) (chip : Chip) (o : Option Entry) → find_entry shipped_chips own ≡ o → chip_can chip ≡ true → chip_can (built_in name chip o).chip ≡ true
built_can name own chip None found can = can
built_can name own chip (Some entry) found can = found_printed own entry found

text_can : (name : List ℕ) (chip : Chip) (b : Body) → chip_can chip ≡ true → chip_can (entry_with shipped_chips name chip b).chip ≡ true
text_can name chip (body.Parts parts) can = can
text_can name chip (body.Builtin own clocked) can = built_can name own chip (find_entry shipped_chips own) refl can

found_can : (from : Sources) (name : List ℕ) (entry : Entry) → from.shipped ≡ shipped_chips → IsFound from name entry → chip_can entry.chip ≡ true
found_can from name entry same (inl (there, (text, chip, has, spells, is))) =
    subst (λ (e : Entry). chip_can e.chip ≡ true) (sym (is ∙ ap (λ (shipped : List Entry). entry_with shipped name chip chip.body) same)) (text_can name chip chip.body (spelled_can text chip spells))
found_can from name entry same (inr (there, found)) = found_printed name entry (ap (λ (shipped : List Entry). find_entry shipped name) (sym same) ∙ found)

abbrev pub AreKnown : List Entry → Type 0
AreKnown entries = IsLibrary entries × AreWritable entries

more_known : (entries : List Entry) (name : List ℕ) (entry : Entry) (from : Sources) → from.shipped ≡ shipped_chips → find_entry entries name ≡ None → IsFound from name entry → AreKnown entries → AreKnown (entries ++ entry ∷ [])
more_known entries name entry from same new found known =
    let good = found_good from name entry same found in
    let none : find_entry entries entry.name ≡ None = ap (find_entry entries) good.named ∙ new in
    let can = found_can from name entry same found in
    let write = known.1 in (
      libraries.more entries entry known.0 none good.known,
      λ other e h. elim (found_later entries entry other e h) [ inl k ↦ write other e k | inr q ↦ subst (λ (x : Entry). chip_can x.chip ≡ true) q can ],
    )

taken_known : (from : Sources) (name : List ℕ) (entries : List Entry) (next : List (List ℕ)) (after : List Entry) → from.shipped ≡ shipped_chips → IsTaken from name entries next after → AreKnown entries → AreKnown after
taken_known from name entries next after same (inl (entry, found, none, stay)) known = subst AreKnown (sym stay) known
taken_known from name entries next after same (inr (inl (new, (entry, found, needs, more)))) known = subst AreKnown (sym more) (more_known entries name entry from same new found known)
taken_known from name entries next after same (inr (inr (new, there, none, needs, stay))) known = subst AreKnown (sym stay) known

gathered_known : (from : Sources) (names : List (List ℕ)) (entries all : List Entry) → from.shipped ≡ shipped_chips → Gather from names entries all → AreKnown entries → AreKnown all
gathered_known from names entries all same no_more known = known
gathered_known from names entries all same (one_more {name = name} {names = others} {entries' = after} next taken rest) known =
    gathered_known from (next ++ others) after all same rest (taken_known from name entries next after same taken known)

all_known : (setting : Setting) (name : List ℕ) (entries : List Entry) → HasGathered setting name entries → AreKnown entries
all_known setting name entries (from, h, g) = gathered_known from (name ∷ []) [] entries h.shipped g (libraries.empty, λ other e k. absurd (let no : ⊥ = cc in no))

-- ---- two elaborations of one chip

pub record OneChip (memories : Memories) (chip chip' : LoadedChip) : Type 0 where
  pub entries : List Entry
  pub name : List ℕ
  pub top : Entry
  pub found : find_entry entries name ≡ Some top
  pub no_fault : HasNoFault (chips_in entries memories) top
  pub ends : EndsHavePins (chips_in entries memories)
  pub can : chip_can top.chip ≡ true
  pub e : Elab
  pub e' : Elab
  pub is : IsElaborated (chips_in entries memories) top e
  pub is' : IsElaborated (chips_in entries memories) top e'
  pub net : chip.net ≡ e.net
  pub net' : chip'.net ≡ e'.net
  pub ordered : AreOrdered e.net.nodes e.net.blocks
  pub ordered' : AreOrdered e'.net.nodes e'.net.blocks
  pub directory : IsDirectory entries top e chip.directory
  pub directory' : IsDirectory entries top e' chip'.directory

name_once : (file name other : List ℕ) → file ≡ file_of name → file ≡ file_of other → name ≡ other
name_once file name other h k = append_cancel_right name other (codes ".hdl") (sym h ∙ k)

top_once : (entries : List Entry) (name : List ℕ) (top other : Entry) → find_entry entries name ≡ Some top → find_entry entries name ≡ Some other → top ≡ other
top_once entries name top other h k = let one : Some top ≡ Some other = sym h ∙ k in cc

-- a chip's file is no program
hdl_ends : (name : List ℕ) → ends_in (codes ".hdl") (file_of name) ≡ true
hdl_ends name =
    let cut : drop (length (name ++ codes ".hdl") - 4) (name ++ codes ".hdl") ≡ codes ".hdl" = drop_at name (codes ".hdl") (length (name ++ codes ".hdl") - 4) (omega (arith, length-append name (codes ".hdl"))) in
    (bytes_decides (drop (length (name ++ codes ".hdl") - 4) (name ++ codes ".hdl")) (codes ".hdl")).1 cut

pub no_program : (file name : List ℕ) → file ≡ file_of name → IsProgram file → ⊥
no_program file name is program = let no : true ≡ false = sym (ap (ends_in (codes ".hdl")) is ∙ hdl_ends name) ∙ program in absurd cc

module _ (law : ReadingLaw) (path : List ℕ) (told : Files) (memories : Memories) where
  abbrev S : Setting
  S = setting_of path (Some told) memories

  built_one : (name : List ℕ) (entries : List Entry) (chip chip' : LoadedChip) → AreKnown entries → IsBuilt S entries name chip → IsBuilt S entries name chip' → OneChip memories chip chip'
  built_one name entries chip chip' known b b' =
      let same = top_once entries name b'.top b.top b'.found b.found in
      record {
        entries = entries;
        name = name;
        top = b.top;
        found = b.found;
        no_fault = b.fine.no_fault;
        ends = libraries.ends entries memories known.0;
        can = known.1 name b.top b.found;
        e = b.e;
        e' = b'.e;
        is = b.elaborated;
        is' = subst (λ (t : Entry). IsElaborated (chips_in entries memories) t b'.e) same b'.elaborated;
        net = b.net;
        net' = b'.net;
        ordered = subst (λ (n : Net). AreOrdered n.nodes n.blocks) b.net b.ordered;
        ordered' = subst (λ (n : Net). AreOrdered n.nodes n.blocks) b'.net b'.ordered;
        directory = b.directory;
        directory' = subst (λ (t : Entry). IsDirectory entries t b'.e chip'.directory) same b'.directory;
      }

  pub one_chip : (file : List ℕ) (chip chip' : LoadedChip) → IsLoaded S file chip → IsLoaded S file chip' → OneChip memories chip chip'
  one_chip file chip chip' (name, is, (entries, g, b)) (name', is', (entries', g', b')) =
      let n = name_once file name' name is' is in
      let h : HasGathered S name entries' = subst (λ (x : List ℕ). HasGathered S x entries') n g' in
      let es = one_library law path told memories name entries' entries h g in
      let c : IsBuilt S entries name chip' = subst (λ (x : List Entry). IsBuilt S x name chip') es (subst (λ (x : List ℕ). IsBuilt S entries' x chip') n b') in
      built_one name entries chip chip' (all_known S name entries g) b c

  -- ---- chips that are not loaded

  found_unknown : (name : List ℕ) (entries : List Entry) (top : Entry) (line : List ℕ) → find_entry entries name ≡ Some top → IsUnknown S entries name line → ⊥
  found_unknown name entries top line found (none, is) = let no : Some top ≡ None = sym found ∙ none in absurd cc

  fine_faulty : (chips : Chips) (top : Entry) (entries : List Entry) (name line : List ℕ) (fault : ElaborationFault) → IsFine chips top → IsFaultOf chips top fault → IsFaultLine S entries name fault line → ⊥
  fine_faulty chips top entries name line faults.Memory fine is tells = tells
  fine_faulty chips top entries name line (faults.Named f) fine is tells = not_both chips (top.name ∷ []) top f is fine.no_fault
  fine_faulty chips top entries name line (faults.Loop nets) fine is tells = fine.no_loop nets is.1
  fine_faulty chips top entries name line (faults.TooManyNodes n) fine is tells =
      let many = is.2.many in
      let few = fine.few is.2.tree is.2.listed in
      absurd (omega (arith, many, few))

  pub not_loaded : (file : List ℕ) (chip : LoadedChip) (line : List ℕ) → IsLoaded S file chip → IsNotLoaded S file line → ⊥
  not_loaded file chip line (name, is, (entries, g, b)) (name', is', rest) = by rest
    where
      n : name' ≡ name
      n = name_once file name' name is' is

      by : HasFailed S name' line ⊎ ((others : List Entry) × HasGathered S name' others × (IsUnknown S others name' line ⊎ IsFaulty S others name' line)) → ⊥
      by (inl failed) = not_both_ways law path told memories name entries line g (subst (λ (x : List ℕ). HasFailed S x line) n failed)
      by (inr (others, g', inl unknown)) =
          let es = one_library law path told memories name others entries (subst (λ (x : List ℕ). HasGathered S x others) n g') g in
          found_unknown name entries b.top line b.found (subst (λ (x : List Entry). IsUnknown S x name line) es (subst (λ (x : List ℕ). IsUnknown S others x line) n unknown))
      by (inr (others, g', inr faulty)) =
          let es = one_library law path told memories name others entries (subst (λ (x : List ℕ). HasGathered S x others) n g') g in
          let f : IsFaulty S entries name line = subst (λ (x : List Entry). IsFaulty S x name line) es (subst (λ (x : List ℕ). IsFaulty S others x line) n faulty) in
          let same = top_once entries name f.top b.top f.found b.found in
          fine_faulty (chips_in entries memories) b.top entries name line f.fault b.fine (subst (λ (t : Entry). IsFaultOf (chips_in entries memories) t f.fault) same f.is_fault) f.is

  fault_lines : (chips : Chips) (top : Entry) (entries : List Entry) (name line line' : List ℕ) → chips ≡ chips_in entries memories → HasGathered S name entries → find_entry entries name ≡ Some top → (f f' : ElaborationFault) → IsFaultOf chips top f → IsFaultOf chips top f' → IsFaultLine S entries name f line → IsFaultLine S entries name f' line' → SameButNets S line line'
  fault_lines chips top entries name line line' q g found faults.Memory f' h k t u = absurd t
  fault_lines chips top entries name line line' q g found f faults.Memory h k t u = absurd u
  fault_lines chips top entries name line line' q g found (faults.Named f) (faults.Named f') h k t u =
      let same = one_first chips (top.name ∷ []) top f f' h k in
      inl (t ∙ ap (λ (x : NamedFault). message_line (path_of_text S entries x.chip) (named_message x)) same ∙ sym u)
  fault_lines chips top entries name line line' q g found (faults.Named f) (faults.Loop nets) h k t u = absurd (not_both chips (top.name ∷ []) top f h k.0)
  fault_lines chips top entries name line line' q g found (faults.Named f) (faults.TooManyNodes n) h k t u = absurd (not_both chips (top.name ∷ []) top f h k.0)
  fault_lines chips top entries name line line' q g found (faults.Loop nets) (faults.Named f) h k t u = absurd (not_both chips (top.name ∷ []) top f k h.0)
  fault_lines chips top entries name line line' q g found (faults.Loop nets) (faults.Loop nets') h k t u = inr (record { name = name; entries = entries; gathered = g; top = top; found = found; nets = nets; nets' = nets'; loop = subst (λ (x : Chips). IsFaultOf x top (faults.Loop nets)) q h; loop' = subst (λ (x : Chips). IsFaultOf x top (faults.Loop nets')) q k; is = t; is' = u })
  fault_lines chips top entries name line line' q g found (faults.Loop nets) (faults.TooManyNodes n) h k t u = absurd (k.1 nets h.1)
  fault_lines chips top entries name line line' q g found (faults.TooManyNodes n) (faults.Named f) h k t u = absurd (not_both chips (top.name ∷ []) top f k h.0)
  fault_lines chips top entries name line line' q g found (faults.TooManyNodes n) (faults.Loop nets) h k t u = absurd (h.1 nets k.1)
  fault_lines chips top entries name line line' q g found (faults.TooManyNodes n) (faults.TooManyNodes m) h k t u =
      let trees = one_tree chips top h.2.tree k.2.tree h.2.listed k.2.listed in
      let same : n ≡ m = h.2.number ∙ ap (λ (x : List PartIn). capped_count (node_count chips top x)) trees ∙ sym k.2.number in
      inl (t ∙ ap (λ (x : ℕ). message_line (path_of_text S entries name) (message 0 0 (codes "TooManyNodes") (decimal x))) same ∙ sym u)

  faulty_lines : (entries : List Entry) (name line line' : List ℕ) → HasGathered S name entries → IsFaulty S entries name line → IsFaulty S entries name line' → SameButNets S line line'
  faulty_lines entries name line line' gathered f g =
      let same = top_once entries name g.top f.top g.found f.found in
      fault_lines (chips_in entries memories) f.top entries name line line' refl gathered f.found f.fault g.fault f.is_fault (subst (λ (t : Entry). IsFaultOf (chips_in entries memories) t g.fault) same g.is_fault) f.is g.is

  abbrev Why : List Entry → List ℕ → List ℕ → Type 0
  Why entries name line = IsUnknown S entries name line ⊎ IsFaulty S entries name line

  why_lines : (entries : List Entry) (name line line' : List ℕ) → HasGathered S name entries → Why entries name line → Why entries name line' → SameButNets S line line'
  why_lines entries name line line' gathered (inl (none, is)) (inl (none', is')) = inl (is ∙ sym is')
  why_lines entries name line line' gathered (inl u) (inr f) = absurd (found_unknown name entries f.top line f.found u)
  why_lines entries name line line' gathered (inr f) (inl u) = absurd (found_unknown name entries f.top line' f.found u)
  why_lines entries name line line' gathered (inr f) (inr g) = faulty_lines entries name line line' gathered f g

  abbrev Rest : List ℕ → List ℕ → Type 0
  Rest name line = HasFailed S name line ⊎ ((entries : List Entry) × HasGathered S name entries × Why entries name line)

  rest_lines : (name line line' : List ℕ) → Rest name line → Rest name line' → SameButNets S line line'
  rest_lines name line line' (inl f) (inl g) = inl (one_failure law path told memories name line line' f g)
  rest_lines name line line' (inl f) (inr (entries, g, why)) = absurd (not_both_ways law path told memories name entries line g f)
  rest_lines name line line' (inr (entries, g, why)) (inl f) = absurd (not_both_ways law path told memories name entries line' g f)
  rest_lines name line line' (inr (entries, g, why)) (inr (entries', g', why')) =
      let es = one_library law path told memories name entries' entries g' g in
      why_lines entries name line line' g why (subst (λ (x : List Entry). Why x name line') es why')

  pub one_reason : (file line line' : List ℕ) → IsNotLoaded S file line → IsNotLoaded S file line' → SameButNets S line line'
  one_reason file line line' (name, is, rest) (name', is', rest') =
      rest_lines name line line' rest (subst (λ (x : List ℕ). Rest x line') (name_once file name' name is' is) rest')

-- ---- images

module _ (hack : image.ReadingLaw) (asm : assembly.ReadingLaw) (path : List ℕ) (told : Files) (memories : Memories) where
  abbrev T : Setting
  T = setting_of path (Some told) memories

  unlike : (file : List ℕ) → ends_in (codes ".hack") file ≡ true → ends_in (codes ".hack") file ≡ false → ⊥
  unlike file h k = let no : true ≡ false = sym h ∙ k in absurd cc

  words_once : (file text words words' : List ℕ) → SpellsImage file text words → SpellsImage file text words' → words ≡ words'
  words_once file text words words' (inl (e, h)) (inl (f, k)) = let r = hack text (Ok words) (Ok words') h k in cc
  words_once file text words words' (inl (e, h)) (inr (f, k)) = absurd (unlike file e f)
  words_once file text words words' (inr (e, h)) (inl (f, k)) = absurd (unlike file f e)
  words_once file text words words' (inr (e, h)) (inr (f, k)) = let r = asm text (Ok words) (Ok words') h k in cc

  pub one_image : (file words words' : List ℕ) → IsImage T file words → IsImage T file words' → words ≡ words'
  one_image file words words' (text, has, h) (text', has', k) =
      words_once file text words words' h (subst (λ (t : List ℕ). SpellsImage file t words') (same_text told (path_of T file) text' text has' has) k)

  hack_told : (text : List ℕ) (s t : Message) → RefusesWords Image text s → RefusesWords Image text t → s ≡ t
  hack_told text s t (w, h, e) (x, k, d) =
      let r : Err w ≡ Err x = hack text (Err w) (Err x) h k in
      let same : w ≡ x = cc in
      e ∙ ap wrong_message same ∙ sym d

  asm_told : (text : List ℕ) (s t : Message) → RefusesWords Assembly text s → RefusesWords Assembly text t → s ≡ t
  asm_told text s t (w, h, e) (x, k, d) =
      let r : Err w ≡ Err x = asm text (Err w) (Err x) h k in
      let same : w ≡ x = cc in
      e ∙ ap wrong_message same ∙ sym d

  told_once : (file text : List ℕ) (f f' : AsmFault) (s t : Message) → RefusesImage file text f → RefusesImage file text f' → asm_message f ≡ Some s → asm_message f' ≡ Some t → s ≡ t
  told_once file text f f' s t (inl (e, h)) (inl (d, k)) m n = hack_told text s t (refused_words Image text s (f, h, m)) (refused_words Image text t (f', k, n))
  told_once file text f f' s t (inl (e, h)) (inr (d, k)) m n = absurd (unlike file e d)
  told_once file text f f' s t (inr (e, h)) (inl (d, k)) m n = absurd (unlike file d e)
  told_once file text f f' s t (inr (e, h)) (inr (d, k)) m n = asm_told text s t (refused_words Assembly text s (f, h, m)) (refused_words Assembly text t (f', k, n))

  pub one_no_image : (file line line' : List ℕ) → IsNoImage T file line → IsNoImage T file line' → line ≡ line'
  one_no_image file line line' (text, f, s, has, h, m, is) (text', f', t, has', k, n, is') =
      let same = same_text told (path_of T file) text' text has' has in
      let one = told_once file text f f' s t h (subst (λ (x : List ℕ). RefusesImage file x f') same k) m n in
      is ∙ ap (message_line (path_of T file)) one ∙ sym is'

  hack_both : (text words : List ℕ) (t : Message) → image.Holds text (Ok words) → RefusesWords Image text t → ⊥
  hack_both text words t h (x, k, d) = let r : Ok words ≡ Err x = hack text (Ok words) (Err x) h k in absurd cc

  asm_both : (text words : List ℕ) (t : Message) → assembly.Means text (Ok words) → RefusesWords Assembly text t → ⊥
  asm_both text words t h (x, k, d) = let r : Ok words ≡ Err x = asm text (Ok words) (Err x) h k in absurd cc

  spelled_refused : (file text words : List ℕ) (f : AsmFault) (t : Message) → SpellsImage file text words → RefusesImage file text f → asm_message f ≡ Some t → ⊥
  spelled_refused file text words f t (inl (e, h)) (inl (d, k)) m = hack_both text words t h (refused_words Image text t (f, k, m))
  spelled_refused file text words f t (inl (e, h)) (inr (d, k)) m = unlike file e d
  spelled_refused file text words f t (inr (e, h)) (inl (d, k)) m = unlike file d e
  spelled_refused file text words f t (inr (e, h)) (inr (d, k)) m = asm_both text words t h (refused_words Assembly text t (f, k, m))

  pub not_both_images : (file words line : List ℕ) → IsImage T file words → IsNoImage T file line → ⊥
  not_both_images file words line (text, has, h) (text', f, t, has', k, m, is) =
      spelled_refused file text words f t h (subst (λ (x : List ℕ). RefusesImage file x f) (same_text told (path_of T file) text' text has' has) k) m
