-- Chips come down to ends: parts nest no deeper than there are chips.
use Rattle.std.proofs.Common.{◌≡◌, ℕ, zero, suc, ◌+◌, ◌<◌, ◌≤◌, Bool, true, false, cond, List, [], ◌∷◌, length, Option, Some, None, refl, sym, ap, subst, ◌∙◌, arith}
use Rattle.std.specs.Prelude.{slice_get, ◌||◌, ◌&&◌, codes, if◌then◌else◌}
use Rattle.std.specs.Str.{bytes_eq}
use Rattle.std.proofs.lemmas.Slice.Eq.{bytes_eq-Decides}
use Rattle.hdl_tree.specs.declared.tree.Body.{Body}
use Rattle.hdl_tree.specs.declared.tree.Body.TheVariants as body
use Rattle.hdl_tree.specs.declared.tree.Part.{Part}
use Rattle.hdl_tree.specs.declared.library.Entry.{Entry}
use Rattle.hdl_tree.specs.declared.ends.End.{End}
use Rattle.hdl_tree.specs.declared.ends.End.TheVariants as ends
use Rattle.hdl_tree.specs.declared.ends.Memories.{Memories}
use Rattle.hdl_tree.specs.declared.ends.Memories.TheVariants.{Blocks, Gates}
use Rattle.hdl_tree.specs.Chips.{Chips, are_blocks, end_named, end_of, end_of_shipped, find_chip, find_entry, parts_of, parts_of_body, parts_unless}
use Rattle.hdl_tree.specs.Behaviour.{chip_of}
use Rattle.hdl_tree.specs.Writable.{is_among}
use Rattle.hdl_check.specs.Faults.{body_fault_of, part_fault_by}
use Rattle.hdl_check.specs.Locations.{AtBody, AtPart, fault_of_part, unless, IsFaultless}
use Rattle.hdl_plans.proofs.Fewer.{left, left_less}
use Rattle.hdl_plans.proofs.Nesting.{inner_by}
use Rattle.computer_laws.specs.Down.{AreThere, ComesDown, IsGround, is_end, of_parts}

-- ---- which ends there are

took : (b : Bool) (x e : End) (o : Option End) (memories : Memories) → IsGround memories x → (o ≡ Some e → IsGround memories e) → (if b then Some x else o) ≡ Some e → IsGround memories e
took true x e o memories g go h = let same : x ≡ e = cc in subst (IsGround memories) same g
took false x e o memories g go h = go h

block_took : (b : Bool) (bits : ℕ) (e : End) (o : Option End) (memories : Memories) → (o ≡ Some e → IsGround memories e) → (if b && are_blocks memories then Some (ends.Block bits) else o) ≡ Some e → IsGround memories e
block_took b bits e o Blocks go h = took (b && true) (ends.Block bits) e o Blocks refl go h
block_took true bits e o Gates go h = go h
block_took false bits e o Gates go h = go h

no_end : (e : End) (memories : Memories) → None ≡ Some e → IsGround memories e
no_end e memories h = absurd cc

named_ground : (memories : Memories) (name : List ℕ) (e : End) → end_named memories name ≡ Some e → IsGround memories e
named_ground memories name e =
    took (bytes_eq name (codes "Nand")) ends.Nand e _ memories tt
    (took (bytes_eq name (codes "DFF")) ends.Dff e _ memories tt
    (took (bytes_eq name (codes "Keyboard")) ends.Keyboard e _ memories tt
    (took (bytes_eq name (codes "ROM32K")) ends.Rom e _ memories tt
    (block_took (bytes_eq name (codes "RAM8")) 3 e _ memories
    (block_took (bytes_eq name (codes "RAM64")) 6 e _ memories
    (block_took (bytes_eq name (codes "RAM512")) 9 e _ memories
    (block_took (bytes_eq name (codes "RAM4K")) 12 e _ memories
    (block_took (bytes_eq name (codes "RAM16K")) 14 e _ memories
    (block_took (bytes_eq name (codes "Screen")) 13 e _ memories (no_end e memories))))))))))

shipped_ground : (memories : Memories) (o : Option (List ℕ)) (e : End) → end_of_shipped memories o ≡ Some e → IsGround memories e
shipped_ground memories None e h = absurd cc
shipped_ground memories (Some name) e h = named_ground memories name e h

ground : (memories : Memories) (chip : Entry) (e : End) → end_of memories chip ≡ Some e → IsGround memories e
unfolding end_of
ground memories chip e h = shipped_ground memories chip.shipped e h

-- ---- chips

-- the body of a chip whose text is not built in
parts_body : (chip : List ℕ) (b : Body) → body_fault_of chip b ≡ None → (parts : List Part) × (b ≡ body.Parts parts)
parts_body chip (body.Parts parts) h = (parts, refl)
parts_body chip (body.Builtin name clocked) h = absurd cc

there_by : (chips : Chips) (names : List (List ℕ)) (chip part : List ℕ) (o : Option Entry) → find_chip chips part ≡ o → part_fault_by names chip part o ≡ None → (inner : Entry) × (find_chip chips part ≡ Some inner)
there_by chips names chip part None e h = absurd cc
there_by chips names chip part (Some inner) e h = (inner, e)

module _ (chips : Chips) (names : List (List ℕ)) (chip : Entry) (faultless : IsFaultless chips names chip) (is : end_of chips.memories chip ≡ None) where
  text : (parts : List Part) × (chip.chip.body ≡ body.Parts parts)
  text = parts_body chip.name chip.chip.body (sym (ap (λ (o : Option End). unless o (body_fault_of chip.name chip.chip.body)) is) ∙ faultless AtBody)

  same_parts : (parts : List Part) → chip.chip.body ≡ body.Parts parts → parts_of chips chip ≡ parts
  same_parts parts e = ap (λ (o : Option End). parts_unless o (parts_of_body chip.chip.body)) is ∙ ap parts_of_body e

  at_part : (parts : List Part) → chip.chip.body ≡ body.Parts parts → (i : ℕ) (part : Part) → slice_get parts i ≡ Some part → slice_get (parts_of chips chip) i ≡ Some part
  at_part parts e i part at = ap (λ (ps : List Part). slice_get ps i) (same_parts parts e) ∙ at

  are_there : (parts : List Part) → chip.chip.body ≡ body.Parts parts → AreThere chips parts
  are_there parts e i part at = there_by chips names chip.name part.chip (find_chip chips part.chip) refl (sym (ap (fault_of_part chips names chip) (at_part parts e i part at)) ∙ faultless (AtPart i))

down : (d : ℕ) (chips : Chips) (names : List (List ℕ)) (chip : Entry) → IsFaultless chips names chip → left names chips.entries < d → ComesDown chips chip
down zero chips names chip faultless lt = absurd (omega (arith, lt))
down (suc d) chips names chip faultless lt = by (end_of chips.memories chip) refl (λ inner more less. down d chips (inner.name ∷ names) inner more less)
  where
    by : (o : Option End) → end_of chips.memories chip ≡ o → ((inner : Entry) → IsFaultless chips (inner.name ∷ names) inner → left (inner.name ∷ names) chips.entries < d → ComesDown chips inner) → ComesDown chips chip
    by (Some e) is go = is_end e is (ground chips.memories chip e is)
    by None is go =
        let t = text chips names chip faultless is in
        of_parts t.0 is t.1 (are_there chips names chip faultless is t.0 t.1)
        (λ i part inner at found.
        let here = at_part chips names chip faultless is t.0 t.1 i part at in
        let fine = inner_by chips names chip i inner (slice_get (parts_of chips chip) i) refl (ap (chip_of chips) here ∙ found) faultless in
        let less = left_less chips.entries fine.name inner names fine.there fine.apart in
        go inner fine.faultless (omega (arith, less, lt)))

pub comes_down : (chips : Chips) (chip : Entry) → IsFaultless chips (chip.name ∷ []) chip → ComesDown chips chip
comes_down chips chip faultless =
    down (suc (left (chip.name ∷ []) chips.entries)) chips (chip.name ∷ []) chip faultless (omega arith)
