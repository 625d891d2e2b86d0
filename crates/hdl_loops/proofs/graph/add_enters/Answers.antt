use Rattle.std.proofs.Common.{get_or, inl, arith}
use Rattle.std.proofs.lemmas.Option.{slice_get_within}
use Rattle.hdl_check.specs.Whole.{chips_in}
use Rattle.hdl_loops.proofs.Lists.{get_in, in_get, get_there}
use Rattle.hdl_loops.proofs.Pinning.{kept_if, enters_only, enters_each}
use Rattle.hdl_loops.proofs.graph.add_enters.Goals as goal

pub loop-enter-init : goal.loop-enter-init
loop-enter-init c = record { kept = λ a h. h; only = λ a h. inl h; all = λ q lt. absurd (omega (arith, lt)) }

pub loop-enter-preserved : goal.loop-enter-preserved
loop-enter-preserved c =
    let chips = chips_in c.args.entries.now c.args.memories in
    let ks = c.args.known.now in
    let k = c.args.chip in
    let some = c.args.some.now in
    let leave = c.args.leave.now in
    let i = c.loop-enter.enter-index in
    let start = c.args.enters.now.items in
    let old = c.loop-enter.enters.items in
    let new = c.add_if.new.found.items in
    let item = get_or some i _ in
    let at = get_there some i _ c.loop-enter-test.true in
    let t = c.goes_through-leads.result in
    let inv = c.loop-enter.invariant in
    record {
      kept = λ a h. kept_if t old new item c.in_ok-add_if.ensures a (inv.kept a h);
      only = enters_only chips ks k some leave item t start old new (get_in some i item at) c.goes_through-leads.ensures c.in_ok-add_if.ensures inv.only;
      all = enters_each chips ks k some leave item t old new i at c.goes_through-leads.ensures c.in_ok-add_if.ensures inv.all;
    }

pub returns : goal.returns
returns c = record {
  kept = c.loop-enter.invariant.kept;
  only = c.loop-enter.invariant.only;
  all = λ a h leads.
      let q = in_get c.args.some.now a h in
      let within = slice_get_within c.args.some.now q.0 a q.1 in
      c.loop-enter.invariant.all q.0 (omega (arith, within)) a q.1 leads;
}
