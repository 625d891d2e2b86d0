-- The parts that a directory lists: which of them stand where.
use Rattle.std.proofs.Common.{◌≡◌, ℕ, zero, suc, Bool, true, false, List, [], ◌∷◌, ◌++◌, map, Option, Some, refl, ap, sym, subst, ◌∙◌, arith}
use Rattle.std.specs.Prelude.{IsSome, if◌then◌else◌}
use Rattle.std.specs.Str.{bytes_eq}
use Rattle.std.specs.Cmp.Lexicographic.{bytes_decides}
use Rattle.hdl_tree.specs.declared.tree.Part.{Part}
use Rattle.hdl_tree.specs.declared.library.Entry.{Entry}
use Rattle.hdl_tree.specs.Chips.{Chips, find_chip, find_entry, parts_of}
use Rattle.hdl_tree.specs.Behaviour.{Wires, Each}
use Rattle.gate_computer.specs.declared.wiring.WiredPart.{WiredPart}
use Rattle.hdl_flatten.specs.Trees.{PartIn, within, AreListed, none, next, bit_count, all_bits}
use Rattle.hdl_flatten.specs.Flat.{nodes_at, part_at}
use Rattle.gate_computer.specs.Wiring.{part_at as wired_at}
use Rattle.gate_computer.specs.Inner.Directory.{first_named, outputs_of, turned_nodes, wired_part, IsTold, AreTold}
use Rattle.hdl_behaviours.proofs.Clean.{find_in}
use Rattle.gate_computer.proofs.Standing.{Paths, with_if, places}
use Rattle.gate_computer.proofs.Turning.{outs_long, turned_is}

-- ---- each part's chip is found under its name

each-append : {X : Type 0} (P : X → Type 0) (xs ys : List X) → Each P xs → Each P ys → Each P (xs ++ ys)
each-append P [] ys h k = k
each-append P (x ∷ xs) ys h k = (h.0, each-append P xs ys h.1 k)

abbrev pub IsFound : Chips → PartIn → Type 0
IsFound chips p = find_chip chips p.chip.name ≡ Some p.chip

each-within : (chips : Chips) (i : ℕ) (tree : List PartIn) → Each (IsFound chips) tree → Each (IsFound chips) (within i tree)
each-within chips i [] h = tt
each-within chips i (p ∷ tree) h = (h.0, each-within chips i tree h.1)

pub all_found : (chips : Chips) (i : ℕ) (parts : List Part) (tree : List PartIn) → AreListed chips i parts tree → Each (IsFound chips) tree
all_found chips i parts tree none = tt
all_found chips i parts tree (next {part = part} {parts = behind} {chip = chip} {inner = inner} {others = others} found inside after) =
    let named = (find_in chips.entries part.chip chip found).named in (
      ap (find_chip chips) (sym named) ∙ found,
      each-append (IsFound chips) (within i inner) others
          (each-within chips i inner (all_found chips 0 (parts_of chips chip) inner inside))
          (all_found chips (suc i) behind others after),
    )

module _ (chips : Chips) (at : List ℕ → Wires ℕ) (block : List ℕ → ℕ) where
  -- ---- the first part of a name

  -- the first part of a name is the one at this path
  record IsFirst (name : List ℕ) (tree : List PartIn) (path : List ℕ) : Type 0 where
    part : PartIn
    found : IsFound chips part
    path_is : part.path ≡ path
    named : name ≡ part.chip.name
    first : first_named name (map (part_at chips at block) tree) ≡ Some (part_at chips at block part)

  first_by : (name : List ℕ) (p : PartIn) (tree : List PartIn) (path : List ℕ) (rest : Paths) (b : Bool) → bytes_eq name p.chip.name ≡ b → IsFound chips p → with_if b p.path (places name tree) ≡ path ∷ rest
      → (places name tree ≡ path ∷ rest → IsFirst name tree path) → IsFirst name (p ∷ tree) path
  first_by name p tree path rest true e found h go =
      let same : p.path ≡ path = cc in
      record {
        part = p;
        found = found;
        path_is = same;
        named = (bytes_decides name p.chip.name).0 e;
        first = ap (λ b. if b then Some (part_at chips at block p) else first_named name (map (part_at chips at block) tree)) e;
      }
  first_by name p tree path rest false e found h go =
      let r = go h in
      record {
        part = r.part;
        found = r.found;
        path_is = r.path_is;
        named = r.named;
        first = ap (λ b. if b then Some (part_at chips at block p) else first_named name (map (part_at chips at block) tree)) e ∙ r.first;
      }

  first_is : (name : List ℕ) (tree : List PartIn) (path : List ℕ) (rest : Paths) → Each (IsFound chips) tree → places name tree ≡ path ∷ rest → IsFirst name tree path
  first_is name [] path rest found h = absurd cc
  first_is name (p ∷ tree) path rest found h = first_by name p tree path rest (bytes_eq name p.chip.name) refl found.0 h (first_is name tree path rest found.1)

  pub first_part : (name : List ℕ) (chip : Entry) (tree : List PartIn) (path : List ℕ) → Each (IsFound chips) tree → find_chip chips name ≡ Some chip → places name tree ≡ path ∷ []
      → first_named name (map (part_at chips at block) tree) ≡ Some (part_at chips at block (record { path = path; chip = chip }))
  first_part name chip tree path found there h =
      let r = first_is name tree path [] found h in
      let both : Some r.part.chip ≡ Some chip = sym r.found ∙ ap (find_chip chips) (sym r.named) ∙ there in
      let same : r.part.chip ≡ chip = cc in
      r.first ∙ ap (λ (p : List ℕ). Some (part_at chips at block (record { path = p; chip = r.part.chip }))) r.path_is
      ∙ ap (λ (e : Entry). Some (part_at chips at block (record { path = path; chip = e }))) same

  -- ---- the parts, with the bits of their outputs turned

  some_there : (o : Option Entry) (chip : Entry) → o ≡ Some chip → IsSome o
  some_there o chip e = subst (λ (x : Option Entry). IsSome x) (sym e) refl

  told : (p : PartIn) → IsFound chips p → IsTold chips.entries (part_at chips at block p)
  told p found = record {
    there = some_there (find_entry chips.entries p.chip.name) p.chip found;
    wide =
        let long = outs_long (at p.path) p.chip.chip.outputs in
        let same : bit_count (outputs_of (find_entry chips.entries p.chip.name)) ≡ bit_count p.chip.chip.outputs = ap (λ (o : Option Entry). bit_count (outputs_of o)) found in
        omega (arith, long, same);
  }

  pub all_told : (tree : List PartIn) → Each (IsFound chips) tree → AreTold chips.entries (map (part_at chips at block) tree)
  all_told [] found i part e = absurd cc
  all_told (p ∷ tree) found zero part e = let same : part_at chips at block p ≡ part = cc in subst (IsTold chips.entries) same (told p found.0)
  all_told (p ∷ tree) found (suc i) part e = all_told tree found.1 i part e

  wired_is : (p : PartIn) → IsFound chips p → wired_part chips.entries (part_at chips at block p) ≡ wired_at at p
  wired_is p found =
      ap (λ (o : Option Entry). record { chip = p.chip.name; outputs = turned_nodes (outputs_of o) (nodes_at (at p.path) (all_bits p.chip.chip.outputs)) }) found
      ∙ ap (λ (l : List ℕ). record { chip = p.chip.name; outputs = l }) (turned_is (at p.path) p.chip.chip.outputs)

  pub all_wired : (tree : List PartIn) → Each (IsFound chips) tree → map (wired_part chips.entries) (map (part_at chips at block) tree) ≡ map (wired_at at) tree
  all_wired [] found = refl
  all_wired (p ∷ tree) found =
      ap (λ (w : WiredPart). w ∷ map (wired_part chips.entries) (map (part_at chips at block) tree)) (wired_is p found.0)
      ∙ ap (λ (l : List WiredPart). wired_at at p ∷ l) (all_wired tree found.1)
