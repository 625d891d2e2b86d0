-- Written assembly means the words of its instructions.
use Rattle.std.proofs.Common.{◌≡◌, ℕ, suc, ◌+◌, ◌*◌, ◌<◌, ◌≤◌, Bool, true, false, List, [], ◌∷◌, ◌++◌, Option, Some, None, Ok, is_some, map, length, refl, sym, ap, ◌∙◌, inl, arith, length-append, append_assoc}
use Rattle.std.specs.Prelude.{decimal, ◌&&◌}
use Rattle.std.proofs.lemmas.Fmt.{length-decimal-le}
use Rattle.scan_text.specs.declared.Place.{Place}
use Rattle.scan_text.specs.Text.{start, step, walk}
use Rattle.grammar.specs.Lines.{is_open}
use Rattle.grammar.specs.Rules.{marked, worded, at_end, both, left, ended, again}
use Rattle.hack_isa.specs.Table.{word_of}
use Rattle.hack_isa.specs.declared.Instr.{Instr}
use Rattle.hack_isa.specs.declared.Instr.TheVariants as instr
use Rattle.hack_asm.specs.declared.token.Kind.TheVariants.{Sign, Number}
use Rattle.hack_asm.specs.declared.lines.Compute.{Compute}
use Rattle.hack_asm.specs.Tokens.{Word, made_word, piece, line_end_token, ends, close, finish}
use Rattle.hack_asm.specs.Grammar as assembly
use Rattle.hack_asm.specs.Trees.{line_tree, lines_tree}
use Rattle.hack_asm.specs.Comps.{computations, entry, text_in}
use Rattle.hack_asm.specs.Written.{IsSpelled, AreSpelled, WrittenMeans, destinations, jumps, computed_text, instr_text, asm_text}
use Rattle.grammar.proofs.Entered.{skip, entered}
use Rattle.grammar.proofs.LinePieces.{close_none, cut_within}
use Rattle.hack_asm.proofs.Letters.{R}
use Rattle.hack_asm.proofs.WrittenText.{the_cut, token_cut, line_end_cut, sign_token, number_cut}
use Rattle.hack_asm.proofs.WrittenParts.{Computes, computes, Goes, goes, Jumps, jumps_by}
use Rattle.hack_asm.proofs.WrittenProgram.{Direct, constant, computed, direct_item, direct_word, direct_lines, direct_program}

-- the line of an instruction: how it is cut, what it spells, and its word
record Lined (i : Instr) : Type 0 where
  direct : Direct
  ends_at : Place → Place
  tokens : Place → List Word → List Word
  cut : (last : Option Word) (at : Place) (bs : List ℕ) (ts : List Word) → the_cut (Some (line_end_token (ends_at at))) (step (ends_at at) 10) bs ≡ Ok ts → the_cut last at (instr_text i ++ bs) ≡ Ok (tokens at ts)
  reads : (end at : Place) (ts : List Word) → R end assembly.line (tokens at ts) (line_tree (Some (direct_item direct))) ts
  short : length (instr_text i) ≤ 12
  word : direct_word direct ≡ word_of i

abbrev number_at : Place → Place
number_at at = walk at (64 ∷ [])

abbrev address_end : ℕ → Place → Place
address_end n at = walk (number_at at) (decimal n)

address_lined : (n : ℕ) → n < 32768 → Lined (instr.Address n)
address_lined n small = record {
  direct = constant n;
  ends_at = address_end n;
  tokens = λ at ts. sign_token 64 at ∷ made_word (Number n) (decimal n) (number_at at) ∷ line_end_token (address_end n at) ∷ ts;
  cut = λ last at bs ts e.
      let ts1 : List Word = line_end_token (address_end n at) ∷ ts in
      ap (λ (l : List ℕ). the_cut last at (64 ∷ l)) (append_assoc (decimal n) (10 ∷ []) bs)
      ∙ token_cut 64 [] (decimal n ++ 10 ∷ bs) (Sign 64) last at (made_word (Number n) (decimal n) (number_at at) ∷ ts1) refl
      (λ l. number_cut n l (number_at at) bs ts1 small (λ k. line_end_cut k (address_end n at) bs ts e));
  reads = λ end at ts. skip refl refl (both (skip refl refl (left refl (both (marked refl) (left refl (worded refl refl))))) (marked refl));
  short = omega (arith, length-append (decimal n) (10 ∷ []), length-decimal-le 5 n (omega arith) (omega arith) (omega arith));
  word = refl;
}

module _ (i : Instr) (bare dest jump : ℕ) (is_text : instr_text i ≡ computed_text bare dest jump) (is_word : word_of i ≡ bare + dest * 8 + jump) (c : Computes bare (text_in computations bare)) (d : Goes dest (text_in destinations dest)) (j : Jumps jump (text_in jumps jump)) where
  abbrev comp_at : Place → Place
  comp_at at = walk at (text_in destinations dest)

  abbrev jump_at : Place → Place
  jump_at at = walk (comp_at at) (text_in computations bare)

  abbrev compute_end : Place → Place
  compute_end at = walk (jump_at at) (text_in jumps jump)

  abbrev jump_tokens : Place → List Word → List Word
  jump_tokens at ts = j.tokens (jump_at at) (line_end_token (compute_end at) ∷ ts)

  abbrev comp_tokens : Place → List Word → List Word
  comp_tokens at ts = c.tokens (comp_at at) (jump_tokens at ts)

  abbrev compute_spelled : Compute
  compute_spelled = record { dest = d.spelled; comp = c.spelled; jump = j.spelled }

  bytes : (bs : List ℕ) → instr_text i ++ bs ≡ text_in destinations dest ++ (text_in computations bare ++ (text_in jumps jump ++ 10 ∷ bs))
  bytes bs =
      ap (λ (l : List ℕ). l ++ bs) is_text
      ∙ append_assoc (text_in destinations dest) (text_in computations bare ++ (text_in jumps jump ++ 10 ∷ [])) bs
      ∙ ap (λ (l : List ℕ). text_in destinations dest ++ l)
      (append_assoc (text_in computations bare) (text_in jumps jump ++ 10 ∷ []) bs
      ∙ ap (λ (l : List ℕ). text_in computations bare ++ l) (append_assoc (text_in jumps jump) (10 ∷ []) bs))

  compute_cut : (last : Option Word) (at : Place) (bs : List ℕ) (ts : List Word) → the_cut (Some (line_end_token (compute_end at))) (step (compute_end at) 10) bs ≡ Ok ts → the_cut last at (instr_text i ++ bs) ≡ Ok (d.tokens at (comp_tokens at ts))
  compute_cut last at bs ts e =
      ap (the_cut last at) (bytes bs)
      ∙ d.cut last at (text_in computations bare ++ (text_in jumps jump ++ 10 ∷ bs)) (comp_tokens at ts)
      (λ l. c.cut l (comp_at at) (text_in jumps jump ++ 10 ∷ bs) (jump_tokens at ts) (j.apart bs)
      (λ k. j.cut k (jump_at at) bs (line_end_token (compute_end at) ∷ ts)
      (λ h. line_end_cut h (compute_end at) bs ts e)))

  compute_reads : (end at : Place) (ts : List Word) → R end assembly.line (d.tokens at (comp_tokens at ts)) (line_tree (Some (direct_item (computed compute_spelled)))) ts
  compute_reads end at ts =
      let shut = j.shut (jump_at at) (compute_end at) ts in
      let begins = d.begins at (comp_tokens at ts) (c.begins (comp_at at) (jump_tokens at ts)) in
      let part = d.reads end at c.spelled (comp_tokens at ts) (jump_tokens at ts) (c.bare end (comp_at at) (jump_tokens at ts) shut) (c.after end (comp_at at) (jump_tokens at ts) shut) in
      skip begins.blank refl
      (both (skip begins.label refl (skip begins.address refl (both part (j.reads end (jump_at at) (compute_end at) ts)))) (marked refl))

  compute_lined : Lined i
  compute_lined = record {
    direct = computed compute_spelled;
    ends_at = compute_end;
    tokens = λ at ts. d.tokens at (comp_tokens at ts);
    cut = compute_cut;
    reads = compute_reads;
    short =
        let a = d.short in
        let b = c.short in
        let e = j.short in
        let same = ap length is_text in
        omega (arith, a, b, e, same, length-append (text_in destinations dest) (text_in computations bare ++ (text_in jumps jump ++ 10 ∷ [])), length-append (text_in computations bare) (text_in jumps jump ++ 10 ∷ []), length-append (text_in jumps jump) (10 ∷ []));
    word = (λ z. c.row_is z + d.bits_are z * 8 + j.bits_are z) ∙ sym is_word;
  }

shift_has : (m side d : Bool) → (d && m) ≡ false → is_some (entry computations (word_of (instr.Shift m side d 0 0))) ≡ true
shift_has true side true h = absurd (cc h)
shift_has true true false h = refl
shift_has true false false h = refl
shift_has false true true h = refl
shift_has false false true h = refl
shift_has false true false h = refl
shift_has false false false h = refl

lined : (i : Instr) → IsSpelled i → Lined i
lined (instr.Address n) h = address_lined n h
lined (instr.Compute m comp dest jump) h =
    let bare = word_of (instr.Compute m comp 0 0) in
    let is : word_of (instr.Compute m comp dest jump) ≡ bare + dest * 8 + jump = omega arith in
    compute_lined (instr.Compute m comp dest jump) bare dest jump refl is (computes bare h.1) (goes dest h.0.1) (jumps_by jump h.0.2)
lined (instr.Shift m side d dest jump) h =
    let bare = word_of (instr.Shift m side d 0 0) in
    let is : word_of (instr.Shift m side d dest jump) ≡ bare + dest * 8 + jump = omega arith in
    compute_lined (instr.Shift m side d dest jump) bare dest jump refl is (computes bare (shift_has m side d h.0)) (goes dest h.1) (jumps_by jump h.2)

-- the lines of some instructions
record AllLined (is : List Instr) (last : Option Word) (at : Place) : Type 0 where
  direct : List Direct
  tokens : List Word
  cut : the_cut last at (asm_text is) ≡ Ok tokens
  reads : (end : Place) → R end assembly.lines tokens (lines_tree (direct_lines direct)) []
  words : map direct_word direct ≡ map word_of is
  many : length direct ≡ length is

all_lined : (is : List Instr) (last : Option Word) (at : Place) → AreSpelled is → is_open ends last ≡ false → AllLined is last at
all_lined [] last at h shut = record {
  direct = [];
  tokens = [];
  cut = ap Ok (close_none line_end_token ends last at shut);
  reads = λ end. ended refl;
  words = refl;
  many = refl;
}
all_lined (i ∷ is) last at h shut =
    let one = lined i h.0 in
    let rest = all_lined is (Some (line_end_token (one.ends_at at))) (step (one.ends_at at) 10) h.1 refl in
    record {
      direct = one.direct ∷ rest.direct;
      tokens = one.tokens at rest.tokens;
      cut = one.cut last at (asm_text is) rest.tokens rest.cut;
      reads = λ end. again (entered Word (Unit {0}) (Unit {0}) assembly.Said (assembly.assembly end) (one.reads end at rest.tokens) refl) (one.reads end at rest.tokens) (rest.reads end);
      words = ap (λ (w : ℕ). w ∷ map direct_word rest.direct) one.word ∙ ap (λ (ws : List ℕ). word_of i ∷ ws) rest.words;
      many = ap suc rest.many;
    }

text_length : (is : List Instr) → AreSpelled is → length (asm_text is) ≤ 12 * length is
text_length [] h = omega arith
text_length (i ∷ is) h =
    let one = lined i h.0 in
    let short = one.short in
    omega (arith, short, text_length is h.1, length-append (instr_text i) (asm_text is))

pub written_means : WrittenMeans
written_means is h few =
    let all = all_lined is None start h refl in
    let many = all.many in
    let size : length (asm_text is) ≤ 1048576 = omega (arith, text_length is h, few) in
    inl (
      direct_lines all.direct,
      (all.tokens, tt, cut_within piece close (asm_text is) all.tokens size all.cut, both (all.reads (finish (asm_text is))) at_end),
      sym (direct_program all.direct (omega (arith, many, few)) ∙ ap (λ (ws : List ℕ). Ok ws) all.words),
    )
