use Rattle.std.proofs.Common.{◌≡◌, ◌∙◌, sym, ap, subst, arith}
use Rattle.std.specs.Prelude.{All}
use Rattle.vm_translator.specs.Plain.{IsPlain}
use Rattle.vm_translator.specs.Image.{shared_at}
use Rattle.vm_translator.specs.Shared.{ranges_from}
use Rattle.vm_translator.proofs.Answering.{all_ready, end_fits, fits, from_is, functions_fit, ready_in, routines_fit, too_large}
use Rattle.vm_translator.proofs.PlainLemmas.{plain_image}
use Rattle.vm_translator.proofs.Instructed.{covers_as, shared_covers_as, translated_as}
use Rattle.vm_translator.proofs.translating.translate.Goals as goal

pub returns-then-words-clause-too_large : goal.returns-then-words-clause-too_large
returns-then-words-clause-too_large c = λ w e.
    let s : c.words-words.result ≡ w = cc in
    too_large c.args.linked.now w (sym s ∙ c.words-words.ensures) (let t = c.if-words.true in omega arith)

pub lay_out-requires : goal.lay_out-requires
lay_out-requires c =
    let l = c.args.linked.now in
    let f = functions_fit l (fits l c.words-words.result c.words-words.ensures c.if-words.false) in
    rw (c.base_of.ensures, c.requires.bare, c.as_slice.ensures) f

pub instrs-requires-clause-ready : goal.instrs-requires-clause-ready
instrs-requires-clause-ready c =
    let l = c.args.linked.now in
    ready_in l c.in_ok-layout.layout c.base_of.result c.args.bare c.as_slice.result.now c.requires.sound (fits l c.words-words.result c.words-words.ensures c.if-words.false)
    c.requires.bare c.base_of.ensures c.as_slice.ensures c.in_ok-layout.ensures

pub commits-requires-clause-ready : goal.commits-requires-clause-ready
commits-requires-clause-ready c =
    let l = c.args.linked.now in
    ready_in l c.in_ok-layout.layout c.base_of.result c.args.bare c.as_slice.result.now c.requires.sound (fits l c.words-words.result c.words-words.ensures c.if-words.false)
    c.requires.bare c.base_of.ensures c.as_slice.ensures c.in_ok-layout.ensures

pub points-requires-clause-ready : goal.points-requires-clause-ready
points-requires-clause-ready c =
    let l = c.args.linked.now in
    ready_in l c.in_ok-layout.layout c.base_of.result c.args.bare c.as_slice.result.now c.requires.sound (fits l c.words-words.result c.words-words.ensures c.if-words.false)
    c.requires.bare c.base_of.ensures c.as_slice.ensures c.in_ok-layout.ensures

pub entries-requires-clause-ready : goal.entries-requires-clause-ready
entries-requires-clause-ready c =
    let l = c.args.linked.now in
    ready_in l c.in_ok-layout.layout c.base_of.result c.args.bare c.as_slice.result.now c.requires.sound (fits l c.words-words.result c.words-words.ensures c.if-words.false)
    c.requires.bare c.base_of.ensures c.as_slice.ensures c.in_ok-layout.ensures

pub returns-clause-fits : goal.returns-clause-fits
returns-clause-fits c = fits c.args.linked.now c.words-words.result c.words-words.ensures c.if-words.false

pub returns-clause-well_formed : goal.returns-clause-well_formed
returns-clause-well_formed c =
    let l = c.args.linked.now in
    let f = fits l c.words-words.result c.words-words.ensures c.if-words.false in
    subst (All IsPlain) (sym (c.of.ensures ∙ c.in_ok-instrs.ensures)) (plain_image l f (all_ready l f c.requires.sound))

pub after-from-requires : goal.after-from-requires
after-from-requires c =
    let l = c.args.linked.now in
    end_fits l c.in_ok-layout.layout c.base_of.result c.args.bare c.as_slice.result.now (fits l c.words-words.result c.words-words.ensures c.if-words.false)
    c.requires.bare c.base_of.ensures c.as_slice.ensures c.in_ok-layout.ensures

pub instrs-requires-clause-fits : goal.instrs-requires-clause-fits
instrs-requires-clause-fits c =
    let l = c.args.linked.now in
    routines_fit l c.in_ok-layout.layout c.base_of.result c.after-from.result c.args.bare c.closing_of-closing.result c.as_slice.result.now c.deref-3.result.now (fits l c.words-words.result c.words-words.ensures c.if-words.false)
    c.requires.bare c.base_of.ensures c.as_slice.ensures c.in_ok-layout.ensures c.after-from.ensures c.closing_of-closing.ensures (c.deref-3.ensures.value ∙ c.in_ok-used.ensures)

pub commits-requires-clause-fits : goal.commits-requires-clause-fits
commits-requires-clause-fits c =
    let l = c.args.linked.now in
    routines_fit l c.in_ok-layout.layout c.base_of.result c.after-from.result c.args.bare c.closing_of-closing.result c.as_slice.result.now c.deref-4.result.now (fits l c.words-words.result c.words-words.ensures c.if-words.false)
    c.requires.bare c.base_of.ensures c.as_slice.ensures c.in_ok-layout.ensures c.after-from.ensures c.closing_of-closing.ensures (c.deref-4.ensures.value ∙ c.in_ok-used.ensures)

pub shared_ranges-requires : goal.shared_ranges-requires
shared_ranges-requires c =
    let l = c.args.linked.now in
    routines_fit l c.in_ok-layout.layout c.base_of.result c.after-from.result c.args.bare c.closing_of-closing.result c.as_slice.result.now c.deref-5.result.now (fits l c.words-words.result c.words-words.ensures c.if-words.false)
    c.requires.bare c.base_of.ensures c.as_slice.ensures c.in_ok-layout.ensures c.after-from.ensures c.closing_of-closing.ensures (c.deref-5.ensures.value ∙ c.in_ok-used.ensures)

pub returns-clause-covers : goal.returns-clause-covers
returns-clause-covers c = covers_as c.args.linked.now c.of-2.result (c.of-2.ensures ∙ c.in_ok-points.ensures)

pub returns-clause-shared_covers : goal.returns-clause-shared_covers
returns-clause-shared_covers c =
    let l = c.args.linked.now in
    let from = from_is l c.in_ok-layout.layout c.base_of.result c.after-from.result c.args.bare c.closing_of-closing.result c.as_slice.result.now
    c.requires.bare c.base_of.ensures c.as_slice.ensures c.in_ok-layout.ensures c.after-from.ensures c.closing_of-closing.ensures in
    let own = c.deref-5.ensures.value ∙ c.in_ok-used.ensures in
    shared_covers_as l c.of.result c.of-4.result (c.of.ensures ∙ c.in_ok-instrs.ensures)
    (c.of-4.ensures ∙ c.in_ok-shared.ensures ∙ ap (λ at. ranges_from at c.deref-5.result.now) from ∙ ap (ranges_from (shared_at l)) own)

pub returns-clause-translated : goal.returns-clause-translated
returns-clause-translated c =
    let l = c.args.linked.now in
    let f = fits l c.words-words.result c.words-words.ensures c.if-words.false in
    λ whole uniform. translated_as l c.of.result c.of-3.result c.of-2.result c.requires.sound uniform f (c.of.ensures ∙ c.in_ok-instrs.ensures) (c.of-3.ensures ∙ c.in_ok-commits.ensures) (c.of-2.ensures ∙ c.in_ok-points.ensures) whole
