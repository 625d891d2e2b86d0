-- The assembly of a folder's program, or why there is none.
use Rattle.std.proofs.Common.{◌≡◌, ◌≤◌, ◌||◌, ◌⊎◌, ℕ, Bool, true, false, List, [], ◌∷◌, Ok, Err, All, length, refl, sym, ap, subst, inl, inr, arith}
use Rattle.std.specs.Prelude.{is_some, nat_eq}
use Rattle.std.specs.List.{AllByRecursion}
use Rattle.std.proofs.lemmas.List.Elements.{recursion_from_All}
use Rattle.std.proofs.lemmas.Bool.Decides.{nat_tests}
use Rattle.hack_isa.specs.Machine.{image_words}
use Rattle.hack_isa.specs.Table.{word_of}
use Rattle.hack_isa.specs.declared.Instr.{Instr}
use Rattle.hack_isa.specs.declared.Instr.TheVariants.{Address, Compute, Shift}
use Rattle.hack_asm.specs.Comps.{computations, entry}
use Rattle.hack_asm.specs.Written.{AreSpelled, IsSpelled}
use Rattle.source_files.specs.Loads.{Loads, TellsOf}
use Rattle.source_files.specs.declared.error.LoadError.{LoadError}
use Rattle.source_files.proofs.Told.{told_of, without}
use Rattle.vm_tree.specs.declared.program.File.{File}
use Rattle.vm_link.specs.Links.{Links, whole}
use Rattle.vm_link.specs.Messages.{link_message}
use Rattle.vm_link.specs.declared.fault.LinkFault.{LinkFault}
use Rattle.vm_link.specs.declared.linked.Linked.{Linked}
use Rattle.vm_translator.specs.Image.{IsTooLarge, image_of}
use Rattle.vm_translator.specs.Messages.{code_message}
use Rattle.vm_translator.specs.declared.coded.Coded.{Coded}
use Rattle.vm_translator.specs.declared.coded.CodeFault.{CodeFault}
use Rattle.vm_translator.specs.declared.coded.CodeFault.TheVariants as coding
use Rattle.vm_translator.specs.Plain.{IsPlain, comps_of_a, comps_of_d, is_spelled, stands_among}
use Rattle.nand_cli.specs.Commands.Vm.{IsNoCode}

-- ---- its code

-- what linked code says of its answer
abbrev pub HasLinked : Bool → List File → Linked → Type 0
HasLinked bare program linked = Links bare program (Ok linked)

abbrev pub HasCode : Bool → List File → Coded → Type 0
HasCode bare program coded = (linked : Linked) × Links bare program (Ok linked) × (coded.instrs ≡ image_of linked) × (length (image_of linked) ≤ image_words)

pub unlinked : (bare : Bool) (folder : List ℕ) (program : List File) (fault : LinkFault) (e : LoadError) → Links bare program (Err fault) → TellsOf folder (link_message fault) e
    → Loads (HasLinked bare program) (IsNoCode bare folder program) ⊥ (Err e)
unlinked bare folder program fault e links tells = told_of (HasLinked bare program) (IsNoCode bare folder program) ⊥ folder (link_message fault) e (λ t same. (t, inl (fault, links, same), refl)) tells

pub same_bare : (bare : Bool) (program : List File) (l : Linked) → Links bare program (Ok l) → bare ≡ l.bare
same_bare bare program l (whole kept text k fault e) = ap (λ (m : Linked). m.bare) (sym e)

pub uncoded : (bare : Bool) (folder : List ℕ) (program : List File) (e : LoadError) → Loads (HasLinked bare program) (IsNoCode bare folder program) ⊥ (Err e) → Loads (HasCode bare program) (IsNoCode bare folder program) ⊥ (Err e)
uncoded bare folder program e h = without (HasLinked bare program) (IsNoCode bare folder program) ⊥ (HasCode bare program) (IsNoCode bare folder program) ⊥ e (λ line k. k) (λ k. k) h

pub untranslated : (bare : Bool) (folder : List ℕ) (program : List File) (l : Linked) (fault : CodeFault) (e : LoadError) → Links bare program (Ok l) → ((words : ℕ) → fault ≡ coding.TooLarge words → IsTooLarge l words) → TellsOf folder (code_message fault) e
    → Loads (HasCode bare program) (IsNoCode bare folder program) ⊥ (Err e)
untranslated bare folder program l (coding.TooLarge words) e links large tells =
    told_of (HasCode bare program) (IsNoCode bare folder program) ⊥ folder (code_message (coding.TooLarge words)) e (λ t same. (t, inr (l, words, links, large words refl, same), refl)) tells
untranslated bare folder program l coding.Memory e links large tells =
    told_of (HasCode bare program) (IsNoCode bare folder program) ⊥ folder (code_message coding.Memory) e (λ t same. absurd (let bad : ⊥ = cc in bad)) tells

-- ---- the translator's instructions can be written

same_number : (a b : ℕ) → nat_eq a b ≡ true → a ≡ b
same_number a b h = grind (arith, nat_tests, h)

-- the table of comp has a row of this computation
abbrev HasRow : Bool → ℕ → Type 0
HasRow memory comp = is_some (entry computations (word_of (Compute memory comp 0 0))) ≡ true

entered_by : (memory : Bool) (m n : ℕ) (b rest : Bool) → nat_eq n m ≡ b → HasRow memory m → (rest ≡ true → HasRow memory n) → (b || rest) ≡ true → HasRow memory n
entered_by memory m n true rest e h k both = subst (HasRow memory) (sym (same_number n m e)) h
entered_by memory m n false rest e h k both = k both

-- what stands among numbers that the table has stands in the table
entered : (memory : Bool) (ns : List ℕ) (n : ℕ) → AllByRecursion (HasRow memory) ns → stands_among ns n ≡ true → HasRow memory n
entered memory [] n h k = absurd (let bad : ⊥ = cc in bad)
entered memory (m ∷ ns) n h k = entered_by memory m n (nat_eq n m) (stands_among ns n) refl h.0 (entered memory ns n h.1) k

all_of_a : (memory : Bool) → AllByRecursion (HasRow memory) comps_of_a
all_of_a true = (refl, (refl, (refl, (refl, (refl, (refl, (refl, (refl, (refl, (refl, tt))))))))))
all_of_a false = (refl, (refl, (refl, (refl, (refl, (refl, (refl, (refl, (refl, (refl, tt))))))))))

all_of_d : AllByRecursion (HasRow false) comps_of_d
all_of_d = (refl, (refl, (refl, (refl, (refl, (refl, (refl, (refl, tt))))))))

either : (b c : Bool) → (b || c) ≡ true → (b ≡ true) ⊎ (c ≡ true)
either true c h = inl refl
either false c h = inr h

first_of_both : (b : Bool) → (b || false) ≡ true → b ≡ true
first_of_both true h = refl
first_of_both false h = h

in_table : (memory : Bool) (comp : ℕ) → is_spelled memory comp ≡ true → HasRow memory comp
in_table true comp h = entered true comps_of_a comp (all_of_a true) (first_of_both (stands_among comps_of_a comp) h)
in_table false comp h = elim (either (stands_among comps_of_a comp) (stands_among comps_of_d comp) h) [
  | inl k ↦ entered false comps_of_a comp (all_of_a false) k
  | inr k ↦ entered false comps_of_d comp all_of_d k
]

spelled : (i : Instr) → IsPlain i → IsSpelled i
spelled (Address n) h = h
spelled (Compute memory comp dest jump) h = (h.0, in_table memory comp h.1)
spelled (Shift memory left d dest jump) h = h

all_spelled : (is : List Instr) → AllByRecursion IsPlain is → AreSpelled is
all_spelled [] h = tt
all_spelled (i ∷ is) h = (spelled i h.0, all_spelled is h.1)

pub plain_spelled : (is : List Instr) → All IsPlain is → AreSpelled is
plain_spelled is h = all_spelled is (recursion_from_All IsPlain is h)
