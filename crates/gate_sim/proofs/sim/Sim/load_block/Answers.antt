use Rattle.std.proofs.Common.{◌≡◌, ◌||◌, ◌<◌, ◌≤◌, ◌+◌, not, length, length-set, arith, refl, sym, subst, ap, ◌∙◌, false, set}
use Rattle.std.specs.Prelude.{nat_lt, slice_get, MatchOption}
use Rattle.std.proofs.lemmas.List.{take_at, get_or_read}
use Rattle.std.proofs.lemmas.Bool.{false≢true}
use Rattle.netlist.specs.Present.{value_in}
use Rattle.netlist.specs.Words.{word_at, row_of, HasWords}
use Rattle.netlist.proofs.Following.{block_inside}
use Rattle.gate_sim.specs.Stands.{StandsFor}
use Rattle.gate_sim.proofs.Standing.{stands_load}
use Rattle.gate_sim.proofs.Marking.{mark_put, settled_load, some_words}
use Rattle.gate_sim.proofs.sim.Sim.load_block.Goals as goal

pub invariant_of-self : goal.invariant_of-self
invariant_of-self c =
    let fits = c.self.invariant in
    let list = c.self.inside.written.items in
    let block = c.args.block in
    let inside = block_inside c.self.inside.packed.net.blocks block (λ b. c.args.from + length c.args.words.now ≤ b.words) (subst (λ s. MatchOption (slice_get s.net.blocks block) ⊥ (λ b. c.args.from + length c.args.words.now ≤ b.words)) (sym c.self.view_is) c.requires) in
    let room : block < length list = omega arith in
    let memory = take_at c.put_all.new.memory _ _ (omega arith) in
    let bit : (c.index.result.now || not c.is_empty.result) ≡ (value_in list block || nat_lt 0 (length c.args.words.now)) =
    ap (λ x. x || not c.is_empty.result) (get_or_read list block _ room c.index.ensures false) ∙ ap (λ x. value_in list block || x) (ap not c.is_empty.ensures ∙ some_words (length c.args.words.now)) in
    record {
      ordered = fits.ordered;
      are_writes = fits.are_writes;
      has_words = subst (HasWords c.self.inside.packed.net.blocks) (sym memory) (record {
        rows = c.put_all.ensures.rows ∙ ap length c.deref_mut.ensures.value ∙ fits.has_words.rows;
        sizes = λ b at there. c.put_all.ensures.sizes b ∙ ap (λ m. length (row_of m b)) c.deref_mut.ensures.value ∙ fits.has_words.sizes b at there;
      });
      written_long = length-set list block (c.index.result.now || not c.is_empty.result) ∙ fits.written_long;
      settled = λ begun. settled_load c.self.inside.packed.net list c.self.inside.memory.items _ (value_in c.self.inside.packed.values) block c.args.from c.args.words.now _ room bit (λ b a. ap (λ l. word_at l b a) memory ∙ c.put_all.ensures.words b a ∙ (rw c.deref_mut.ensures.value refl)) (fits.settled begun);
      passed = λ e. absurd (false≢true e);
      begun = λ e. absurd (false≢true e);
      unwritten = λ e. absurd (false≢true e);
    }

pub returns-clause-stands : goal.returns-clause-stands
returns-clause-stands c calls stands =
    let st = subst (λ s. StandsFor s calls) (sym c.self.view_is) stands in
    let list = c.self.inside.written.items in
    let block = c.args.block in
    let inside = block_inside c.self.inside.packed.net.blocks block (λ b. c.args.from + length c.args.words.now ≤ b.words) (subst (λ s. MatchOption (slice_get s.net.blocks block) ⊥ (λ b. c.args.from + length c.args.words.now ≤ b.words)) (sym c.self.view_is) c.requires) in
    let long = c.self.invariant.written_long in
    let room : block < length list = omega arith in
    let memory = take_at c.put_all.new.memory _ _ (omega arith) in
    let bit : (c.index.result.now || not c.is_empty.result) ≡ (value_in list block || nat_lt 0 (length c.args.words.now)) =
    ap (λ x. x || not c.is_empty.result) (get_or_read list block _ room c.index.ensures false) ∙ ap (λ x. value_in list block || x) (ap not c.is_empty.ensures ∙ some_words (length c.args.words.now)) in
    stands_load _ calls block c.args.from c.args.words.now _ _ (λ b a. ap (λ l. word_at l b a) memory ∙ c.put_all.ensures.words b a ∙ (rw c.deref_mut.ensures.value refl))
    (λ b m. mark_put list block b (nat_lt 0 (length c.args.words.now)) room (ap (λ x. value_in (set list block x) b) (sym bit) ∙ m))
    st
