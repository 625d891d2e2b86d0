-- Which parts of the Computer are the instruction memory and the keyboard: one each.
use Rattle.std.proofs.Common.{◌≡◌, ◌≤◌, ◌⊎◌, ℕ, zero, suc, Bool, true, false, List, [], ◌∷◌, length, Option, Some, None, refl, ap, sym, ◌∙◌, subst, inl, inr, arith}
use Rattle.std.specs.Prelude.{◌&&◌, ◌||◌, not, slice_get, codes, if◌then◌else◌}
use Rattle.std.proofs.lemmas.Option.{slice_get_past}
use Rattle.std.proofs.lemmas.Slice.Eq.{bytes_eq-Decides}
use Rattle.std.specs.Str.{bytes_eq}
use Rattle.hdl_tree.specs.declared.tree.Part.{Part}
use Rattle.hdl_tree.specs.declared.library.Entry.{Entry}
use Rattle.hdl_tree.specs.declared.ends.End.{End}
use Rattle.hdl_tree.specs.declared.ends.End.TheVariants as ends
use Rattle.hdl_tree.specs.declared.ends.Memories.TheVariants.{Blocks}
use Rattle.hdl_tree.specs.Writable.{all}
use Rattle.hdl_tree.specs.Chips.{end_of, find_entry, parts_of}
use Rattle.hdl_tree.specs.Behaviour.{chip_at, inner_chip, chip_of}
use Rattle.chip_basic.specs.Hdl.{shipped_entry}
use Rattle.chip_basic.specs.Trees.{nand_tree, not_tree, and_tree, or_tree, xor_tree, mux_tree, dmux_tree, not16_tree, and16_tree, or16_tree, mux16_tree, or8way_tree, mux4way16_tree, mux8way16_tree, dmux4way_tree, dmux8way_tree}
use Rattle.chip_alu.specs.Trees.{half_adder_tree, full_adder_tree, add16_tree, inc16_tree, alu_tree, shift_tree}
use Rattle.chip_memory.specs.Trees.{dff_tree, bit_tree, register_tree, a_register_tree, d_register_tree, pc_tree, ram8_tree, ram64_tree, ram512_tree, ram4k_tree, ram16k_tree, screen_tree}
use Rattle.hack_cpu.specs.Trees.{rom_tree, keyboard_tree, cpu_tree, memory_tree, computer_tree}
use Rattle.hack_cpu.specs.Library.{shipped_chips}
use Rattle.gate_computer.specs.Computer.{chips, computer}
use Rattle.gate_computer.specs.Wiring.{rom_path, main_path, screen_path, keyboard_path}

by_bool : {C : Type 0} (b : Bool) → (b ≡ true → C) → (b ≡ false → C) → C
by_bool true f g = f refl
by_bool false f g = g refl

none-some : {A : Type 0} (a : A) → ◌≡◌ {A = Option A} None (Some a) → ⊥
none-some a e = cc

-- ---- chips without an instruction memory and a keyboard

-- the chips that have one, or are one
has_own : List ℕ → Bool
has_own name = bytes_eq name (codes "ROM32K") || (bytes_eq name (codes "Keyboard") || (bytes_eq name (codes "Memory") || bytes_eq name (codes "Computer")))

pub is_quiet : Option End → Bool
is_quiet None = true
is_quiet (Some ends.Nand) = true
is_quiet (Some ends.Dff) = true
is_quiet (Some ends.Keyboard) = false
is_quiet (Some ends.Rom) = false
is_quiet (Some (ends.Block bits)) = true

-- each other chip is none, and its parts are other chips
is_fine : Entry → Bool
is_fine e = has_own e.name || (is_quiet (end_of Blocks e) && all (λ part. not (has_own part.chip)) (parts_of chips e))

all_fine : all is_fine shipped_chips ≡ true
unfolding has_own is_quiet is_fine end_of shipped_chips nand_tree not_tree and_tree or_tree xor_tree mux_tree dmux_tree not16_tree and16_tree or16_tree mux16_tree or8way_tree mux4way16_tree mux8way16_tree dmux4way_tree dmux8way_tree half_adder_tree full_adder_tree add16_tree inc16_tree alu_tree shift_tree dff_tree bit_tree register_tree a_register_tree d_register_tree pc_tree ram8_tree ram64_tree ram512_tree ram4k_tree ram16k_tree screen_tree rom_tree keyboard_tree cpu_tree memory_tree computer_tree
all_fine = refl

and_first : (a b : Bool) → (a && b) ≡ true → a ≡ true
and_first true b e = refl
and_first false b e = absurd cc

and_second : (a b : Bool) → (a && b) ≡ true → b ≡ true
and_second true b e = e
and_second false b e = absurd cc

or_second : (a b : Bool) → a ≡ false → (a || b) ≡ true → b ≡ true
or_second false b e f = f
or_second true b e f = absurd cc

not_true : (a : Bool) → not a ≡ true → a ≡ false
not_true false e = refl
not_true true e = absurd cc

some_is : {A : Type 0} (a b : A) → Some a ≡ Some b → a ≡ b
some_is a b e = cc

-- what a test says of a list it says of each of its elements
all_at : {A : Type 0} (test : A → Bool) (xs : List A) (i : ℕ) (x : A) → all test xs ≡ true → slice_get xs i ≡ Some x → test x ≡ true
all_at test [] i x h e = absurd (none-some x e)
all_at test (y ∷ ys) zero x h e = ap test (sym (some_is y x e)) ∙ and_first (test y) (all test ys) h
all_at test (y ∷ ys) (suc i) x h e = all_at test ys i x (and_second (test y) (all test ys) h) e

-- a test of the entries that a name finds
found_fine : (test : Entry → Bool) (entries : List Entry) (name : List ℕ) (e : Entry) → all test entries ≡ true → find_entry entries name ≡ Some e → (test e ≡ true) × (bytes_eq name e.name ≡ true)
found_fine test [] name e h found = absurd (none-some e found)
found_fine test (x ∷ xs) name e h found =
    by_bool (bytes_eq name x.name)
    (λ t.
    let is : Some x ≡ Some e = sym (ap (λ b. if b then Some x else find_entry xs name) t) ∙ found in
    let same = some_is x e is in
    (ap test (sym same) ∙ and_first (test x) (all test xs) h, ap (λ (y : Entry). bytes_eq name y.name) (sym same) ∙ t))
    (λ f. found_fine test xs name e (and_second (test x) (all test xs) h) (sym (ap (λ b. if b then Some x else find_entry xs name) f) ∙ found))

-- a chip that neither is nor has one of the two
record IsQuiet (e : Entry) : Type 0 where
  fine : is_fine e ≡ true
  other : has_own e.name ≡ false

quiet_rest : (e : Entry) → IsQuiet e → (is_quiet (end_of Blocks e) && all (λ part. not (has_own part.chip)) (parts_of chips e)) ≡ true
unfolding is_fine
quiet_rest e q = or_second (has_own e.name) _ q.other q.fine

quiet_end : (e : Entry) → IsQuiet e → is_quiet (end_of Blocks e) ≡ true
quiet_end e q = and_first (is_quiet (end_of Blocks e)) (all (λ part. not (has_own part.chip)) (parts_of chips e)) (quiet_rest e q)

-- the chip of a name that is not theirs
quiet_found : (name : List ℕ) (inner : Entry) → find_entry shipped_chips name ≡ Some inner → has_own name ≡ false → IsQuiet inner
quiet_found name inner found own =
    let f = found_fine is_fine shipped_chips name inner all_fine found in
    record { fine = f.0; other = ap has_own (sym ((bytes_eq-Decides name inner.name).0 f.1)) ∙ own }

quiet_part : (e inner : Entry) (i : ℕ) → IsQuiet e → inner_chip chips e i ≡ Some inner → IsQuiet inner
quiet_part e inner i q found = by_part (slice_get (parts_of chips e) i) refl found
  where
    by_part : (o : Option Part) → slice_get (parts_of chips e) i ≡ o → chip_of chips o ≡ Some inner → IsQuiet inner
    by_part None at h = absurd (none-some inner h)
    by_part (Some part) at h =
        let every = and_second (is_quiet (end_of Blocks e)) (all (λ p. not (has_own p.chip)) (parts_of chips e)) (quiet_rest e q) in
        quiet_found part.chip inner h (not_true (has_own part.chip) (all_at (λ p. not (has_own p.chip)) (parts_of chips e) i part every at))

quiet_at : (path : List ℕ) (e c : Entry) → IsQuiet e → chip_at chips e path ≡ Some c → IsQuiet c
quiet_at [] e c q found = subst IsQuiet (some_is e c found) q
quiet_at (i ∷ path) e c q found = by_inner (inner_chip chips e i) refl (λ inner within more. quiet_at path inner c within more) found
  where
    by_inner : (o : Option Entry) → inner_chip chips e i ≡ o → ((inner : Entry) → IsQuiet inner → chip_at chips inner path ≡ Some c → IsQuiet c)
        → (elim o [ None ↦ None | Some inner ↦ chip_at chips inner path ]) ≡ Some c → IsQuiet c
    by_inner None at rest h = absurd (none-some c h)
    by_inner (Some inner) at rest h = rest inner (quiet_part e inner i q at) h

-- ---- the Computer

-- the chip at a path that goes through a part
through : (e inner : Entry) (i : ℕ) (path : List ℕ) → inner_chip chips e i ≡ Some inner → chip_at chips e (i ∷ path) ≡ chip_at chips inner path
through e inner i path at = ap (λ (o : Option Entry). elim o [ None ↦ None | Some x ↦ chip_at chips x path ]) at

-- and past its parts there is none
past : (e : Entry) (i : ℕ) (path : List ℕ) → length (parts_of chips e) ≤ i → chip_at chips e (i ∷ path) ≡ None
past e i path h = ap (λ (o : Option Part). elim (chip_of chips o) [ None ↦ None | Some x ↦ chip_at chips x path ]) (slice_get_past (parts_of chips e) i h)

-- what the parts of the Computer and of Memory are
record HasParts : Type 0 where
  none : end_of Blocks computer ≡ None
  three : length (parts_of chips computer) ≡ 3
  cpu : inner_chip chips computer 0 ≡ Some (shipped_entry cpu_tree)
  rom : inner_chip chips computer 1 ≡ Some (shipped_entry rom_tree)
  memory : inner_chip chips computer 2 ≡ Some (shipped_entry memory_tree)
  rom_end : end_of Blocks (shipped_entry rom_tree) ≡ Some ends.Rom
  rom_parts : length (parts_of chips (shipped_entry rom_tree)) ≡ 0
  memory_end : end_of Blocks (shipped_entry memory_tree) ≡ None
  eight : length (parts_of chips (shipped_entry memory_tree)) ≡ 8
  dmux : inner_chip chips (shipped_entry memory_tree) 0 ≡ Some (shipped_entry dmux_tree)
  not_chip : inner_chip chips (shipped_entry memory_tree) 1 ≡ Some (shipped_entry not_tree)
  and_chip : inner_chip chips (shipped_entry memory_tree) 2 ≡ Some (shipped_entry and_tree)
  ram16k : inner_chip chips (shipped_entry memory_tree) 3 ≡ Some (shipped_entry ram16k_tree)
  screen : inner_chip chips (shipped_entry memory_tree) 4 ≡ Some (shipped_entry screen_tree)
  keyboard : inner_chip chips (shipped_entry memory_tree) 5 ≡ Some (shipped_entry keyboard_tree)
  mux : inner_chip chips (shipped_entry memory_tree) 6 ≡ Some (shipped_entry mux16_tree)
  mux_too : inner_chip chips (shipped_entry memory_tree) 7 ≡ Some (shipped_entry mux16_tree)
  keyboard_end : end_of Blocks (shipped_entry keyboard_tree) ≡ Some ends.Keyboard
  keyboard_parts : length (parts_of chips (shipped_entry keyboard_tree)) ≡ 0
  main_end : end_of Blocks (shipped_entry ram16k_tree) ≡ Some (ends.Block 14)
  screen_end : end_of Blocks (shipped_entry screen_tree) ≡ Some (ends.Block 13)
  cpu_quiet : IsQuiet (shipped_entry cpu_tree)
  dmux_quiet : IsQuiet (shipped_entry dmux_tree)
  not_quiet : IsQuiet (shipped_entry not_tree)
  and_quiet : IsQuiet (shipped_entry and_tree)
  ram16k_quiet : IsQuiet (shipped_entry ram16k_tree)
  screen_quiet : IsQuiet (shipped_entry screen_tree)
  mux_quiet : IsQuiet (shipped_entry mux16_tree)

has_parts : HasParts
unfolding has_own is_quiet is_fine end_of shipped_chips nand_tree not_tree and_tree or_tree xor_tree mux_tree dmux_tree not16_tree and16_tree or16_tree mux16_tree or8way_tree mux4way16_tree mux8way16_tree dmux4way_tree dmux8way_tree half_adder_tree full_adder_tree add16_tree inc16_tree alu_tree shift_tree dff_tree bit_tree register_tree a_register_tree d_register_tree pc_tree ram8_tree ram64_tree ram512_tree ram4k_tree ram16k_tree screen_tree rom_tree keyboard_tree cpu_tree memory_tree computer_tree
has_parts = record {
  none = refl;
  three = refl;
  cpu = refl;
  rom = refl;
  memory = refl;
  rom_end = refl;
  rom_parts = refl;
  memory_end = refl;
  eight = refl;
  dmux = refl;
  not_chip = refl;
  and_chip = refl;
  ram16k = refl;
  screen = refl;
  keyboard = refl;
  mux = refl;
  mux_too = refl;
  keyboard_end = refl;
  keyboard_parts = refl;
  main_end = refl;
  screen_end = refl;
  cpu_quiet = record { fine = refl; other = refl };
  dmux_quiet = record { fine = refl; other = refl };
  not_quiet = record { fine = refl; other = refl };
  and_quiet = record { fine = refl; other = refl };
  ram16k_quiet = record { fine = refl; other = refl };
  screen_quiet = record { fine = refl; other = refl };
  mux_quiet = record { fine = refl; other = refl };
}

-- an instruction memory or a keyboard at a path
pub Found : End → List ℕ → Type 0
Found x path = ((path ≡ rom_path) × (x ≡ ends.Rom)) ⊎ ((path ≡ keyboard_path) × (x ≡ ends.Keyboard))

module _ (x : End) (loud : is_quiet (Some x) ≡ false) (c : Entry) (is : end_of Blocks c ≡ Some x) where
  unquiet : IsQuiet c → ⊥
  unquiet q = let a = quiet_end c q in let b = ap is_quiet is in cc

  in_quiet : (e inner : Entry) (i : ℕ) (path : List ℕ) → inner_chip chips e i ≡ Some inner → IsQuiet inner → chip_at chips e (i ∷ path) ≡ Some c → ⊥
  in_quiet e inner i path at q found = unquiet (quiet_at path inner c q (sym (through e inner i path at) ∙ found))

  -- it is that chip itself
  itself : (e : Entry) (o : Option End) → end_of Blocks e ≡ o → chip_at chips e [] ≡ Some c → Some x ≡ o
  itself e o at found = sym is ∙ ap (end_of Blocks) (sym (some_is e c found)) ∙ at

  beyond : (e : Entry) (i : ℕ) (path : List ℕ) → length (parts_of chips e) ≤ i → chip_at chips e (i ∷ path) ≡ Some c → ⊥
  beyond e i path h found = none-some c (sym (past e i path h) ∙ found)

  in_memory : (path : List ℕ) → chip_at chips (shipped_entry memory_tree) path ≡ Some c → (path ≡ 5 ∷ []) × (x ≡ ends.Keyboard)
  in_memory [] found = absurd (none-some x (sym (itself (shipped_entry memory_tree) None has_parts.memory_end found)))
  in_memory (zero ∷ path) found = absurd (in_quiet _ _ 0 path has_parts.dmux has_parts.dmux_quiet found)
  in_memory (suc zero ∷ path) found = absurd (in_quiet _ _ 1 path has_parts.not_chip has_parts.not_quiet found)
  in_memory (suc (suc zero) ∷ path) found = absurd (in_quiet _ _ 2 path has_parts.and_chip has_parts.and_quiet found)
  in_memory (suc (suc (suc zero)) ∷ path) found = absurd (in_quiet _ _ 3 path has_parts.ram16k has_parts.ram16k_quiet found)
  in_memory (suc (suc (suc (suc zero))) ∷ path) found = absurd (in_quiet _ _ 4 path has_parts.screen has_parts.screen_quiet found)
  in_memory (suc (suc (suc (suc (suc zero)))) ∷ []) found = (refl, some_is x ends.Keyboard (itself (shipped_entry keyboard_tree) (Some ends.Keyboard) has_parts.keyboard_end (sym (through _ _ 5 [] has_parts.keyboard) ∙ found)))
  in_memory (suc (suc (suc (suc (suc zero)))) ∷ i ∷ path) found =
      absurd (beyond (shipped_entry keyboard_tree) i path (let e = has_parts.keyboard_parts in omega (arith, e)) (sym (through _ _ 5 (i ∷ path) has_parts.keyboard) ∙ found))
  in_memory (suc (suc (suc (suc (suc (suc zero))))) ∷ path) found = absurd (in_quiet _ _ 6 path has_parts.mux has_parts.mux_quiet found)
  in_memory (suc (suc (suc (suc (suc (suc (suc zero)))))) ∷ path) found = absurd (in_quiet _ _ 7 path has_parts.mux_too has_parts.mux_quiet found)
  in_memory (suc (suc (suc (suc (suc (suc (suc (suc i))))))) ∷ path) found =
      absurd (beyond (shipped_entry memory_tree) (suc (suc (suc (suc (suc (suc (suc (suc i)))))))) path (let e = has_parts.eight in omega (arith, e)) found)

  pub in_computer : (path : List ℕ) → chip_at chips computer path ≡ Some c → Found x path
  unfolding Found
  in_computer [] found = absurd (none-some x (sym (itself computer None has_parts.none found)))
  in_computer (zero ∷ path) found = absurd (in_quiet _ _ 0 path has_parts.cpu has_parts.cpu_quiet found)
  in_computer (suc zero ∷ []) found = inl (refl, some_is x ends.Rom (itself (shipped_entry rom_tree) (Some ends.Rom) has_parts.rom_end (sym (through _ _ 1 [] has_parts.rom) ∙ found)))
  in_computer (suc zero ∷ i ∷ path) found =
      absurd (beyond (shipped_entry rom_tree) i path (let e = has_parts.rom_parts in omega (arith, e)) (sym (through _ _ 1 (i ∷ path) has_parts.rom) ∙ found))
  in_computer (suc (suc zero) ∷ path) found =
      let p = in_memory path (sym (through _ _ 2 path has_parts.memory) ∙ found) in
      inr (ap (λ (l : List ℕ). 2 ∷ l) p.0, p.1)
  in_computer (suc (suc (suc i)) ∷ path) found = absurd (beyond computer (suc (suc (suc i))) path (let e = has_parts.three in omega (arith, e)) found)

-- the only instruction memory is part 1 of the Computer, and the only keyboard is part 5 of Memory
pub rom_is : (path : List ℕ) (c : Entry) → chip_at chips computer path ≡ Some c → end_of Blocks c ≡ Some ends.Rom → path ≡ rom_path
unfolding is_quiet Found
rom_is path c found is = elim (in_computer ends.Rom refl c is path found) [ inl p ↦ p.0 | inr p ↦ absurd (let e = p.1 in cc) ]

pub keyboard_is : (path : List ℕ) (c : Entry) → chip_at chips computer path ≡ Some c → end_of Blocks c ≡ Some ends.Keyboard → path ≡ keyboard_path
unfolding is_quiet Found
keyboard_is path c found is = elim (in_computer ends.Keyboard refl c is path found) [ inl p ↦ absurd (let e = p.1 in cc) | inr p ↦ p.0 ]

-- ---- what stands at the paths of the memories

at_two : (i j : ℕ) (inner c : Entry) → inner_chip chips computer i ≡ Some inner → inner_chip chips inner j ≡ Some c → chip_at chips computer (i ∷ j ∷ []) ≡ Some c
at_two i j inner c e f = through computer inner i (j ∷ []) e ∙ through inner c j [] f

pub rom_stands : (chip_at chips computer rom_path ≡ Some (shipped_entry rom_tree)) × (end_of Blocks (shipped_entry rom_tree) ≡ Some ends.Rom)
rom_stands = (through computer (shipped_entry rom_tree) 1 [] has_parts.rom, has_parts.rom_end)

pub main_stands : (chip_at chips computer main_path ≡ Some (shipped_entry ram16k_tree)) × (end_of Blocks (shipped_entry ram16k_tree) ≡ Some (ends.Block 14))
main_stands = (at_two 2 3 _ _ has_parts.memory has_parts.ram16k, has_parts.main_end)

pub screen_stands : (chip_at chips computer screen_path ≡ Some (shipped_entry screen_tree)) × (end_of Blocks (shipped_entry screen_tree) ≡ Some (ends.Block 13))
screen_stands = (at_two 2 4 _ _ has_parts.memory has_parts.screen, has_parts.screen_end)

pub keyboard_stands : (chip_at chips computer keyboard_path ≡ Some (shipped_entry keyboard_tree)) × (end_of Blocks (shipped_entry keyboard_tree) ≡ Some ends.Keyboard)
keyboard_stands = (at_two 2 5 _ _ has_parts.memory has_parts.keyboard, has_parts.keyboard_end)
