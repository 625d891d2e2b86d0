use Rattle.std.proofs.Common.{◌∙◌, length, sym}
use Rattle.std.proofs.lemmas.Result.{err_from_is_err_and}
use Rattle.vm_link.specs.Links.{memory, faulty, kept_faulty, whole}
use Rattle.vm_link.specs.Inner.Maps.{all_seen}
use Rattle.vm_link.proofs.LinkLemmas.{fitting, told, kept_of, text_of}
use Rattle.vm_link.proofs.linking.link_files.Goals as goal

pub returns-in_err-parts : goal.returns-in_err-parts
returns-in_err-parts c = let p = err_from_is_err_and c.from_residual.result c.from_residual.ensures.1 in rw (p.1, p.2) memory

pub returns-in_err-numbers : goal.returns-in_err-numbers
returns-in_err-numbers c = let p = err_from_is_err_and c.from_residual-in_err-numbers.result c.from_residual-in_err-numbers.ensures.1 in rw (p.1, p.2) memory

pub returns-in_err-fault : goal.returns-in_err-fault
returns-in_err-fault c = let p = err_from_is_err_and c.from_residual-in_err-fault.result c.from_residual-in_err-fault.ensures.1 in rw (p.1, p.2) memory

pub returns-in_err-kept : goal.returns-in_err-kept
returns-in_err-kept c = let p = err_from_is_err_and c.from_residual-in_err-kept.result c.from_residual-in_err-kept.ensures.1 in rw (p.1, p.2) memory

pub returns-in_err-words : goal.returns-in_err-words
returns-in_err-words c = let p = err_from_is_err_and c.from_residual-in_err-words.result c.from_residual-in_err-words.ensures.1 in rw (p.1, p.2) memory

pub returns-in_err-fault-2 : goal.returns-in_err-fault-2
returns-in_err-fault-2 c = let p = err_from_is_err_and c.from_residual-in_err-fault-2.result c.from_residual-in_err-fault-2.ensures.1 in rw (p.1, p.2) memory

pub returns-in_err-linked : goal.returns-in_err-linked
returns-in_err-linked c = let p = err_from_is_err_and c.from_residual-in_err-linked.result c.from_residual-in_err-linked.ensures.1 in rw (p.1, p.2) memory

pub returns-in-Some : goal.returns-in-Some
returns-in-Some c = faulty (sym (rw (c.deref-2.ensures.value, c.in_ok-parts.ensures) at c.in_ok-fault.ensures) ∙ c.in-Some.is)

pub returns-in-Some-2 : goal.returns-in-Some-2
returns-in-Some-2 c =
    let ps = all_seen c.in_ok-parts.parts.items in
    let ks = all_seen c.in_ok-kept.kept.items in
    let text = text_of c.args.bare c.args.files.now ps c.in_ok-fault.field-0 c.in_ok-parts.ensures (rw (c.deref-2.ensures.value) at c.in_ok-fault.ensures) c.in_default.is in
    let keeps = kept_of c.args.bare c.args.files.now ps ks c.in_ok-parts.ensures c.in_ok-kept.ensures in
    let words = c.in_ok-words.ensures in
    let found = rw (c.deref-4.ensures.value, c.deref-5.ensures.value) at (c.in_ok-fault-2.ensures ps (rw (c.deref.ensures.value) at c.in_ok-numbers.ensures)) in
    let kept = told c.args.bare c.args.files.now ps ks (length c.in_ok-words.words.items) c.in_ok-fault-2.field-0 c.in_ok-parts.ensures words.count found in
    kept_faulty ks text keeps (kept ∙ c.in-Some-2.is)

pub linked-requires-clause-fits : goal.linked-requires-clause-fits
linked-requires-clause-fits c =
    let ps = all_seen c.in_ok-parts.parts.items in
    let ks = all_seen c.in_ok-kept.kept.items in
    let text = text_of c.args.bare c.args.files.now ps c.in_ok-fault.field-0 c.in_ok-parts.ensures (rw (c.deref-2.ensures.value) at c.in_ok-fault.ensures) c.in_default.is in
    let keeps = kept_of c.args.bare c.args.files.now ps ks c.in_ok-parts.ensures c.in_ok-kept.ensures in
    let words = c.in_ok-words.ensures in
    let found = rw (c.deref-4.ensures.value, c.deref-5.ensures.value) at (c.in_ok-fault-2.ensures ps (rw (c.deref.ensures.value) at c.in_ok-numbers.ensures)) in
    let kept = told c.args.bare c.args.files.now ps ks (length c.in_ok-words.words.items) c.in_ok-fault-2.field-0 c.in_ok-parts.ensures words.count found in
    rw (c.deref-6.ensures.value) (λ bases b. fitting c.args.bare c.args.files.now ks bases keeps (kept ∙ c.in_default-2.is) b)

pub returns : goal.returns
returns c =
    let ps = all_seen c.in_ok-parts.parts.items in
    let ks = all_seen c.in_ok-kept.kept.items in
    let text = text_of c.args.bare c.args.files.now ps c.in_ok-fault.field-0 c.in_ok-parts.ensures (rw (c.deref-2.ensures.value) at c.in_ok-fault.ensures) c.in_default.is in
    let keeps = kept_of c.args.bare c.args.files.now ps ks c.in_ok-parts.ensures c.in_ok-kept.ensures in
    let words = c.in_ok-words.ensures in
    let found = rw (c.deref-4.ensures.value, c.deref-5.ensures.value) at (c.in_ok-fault-2.ensures ps (rw (c.deref.ensures.value) at c.in_ok-numbers.ensures)) in
    let kept = told c.args.bare c.args.files.now ps ks (length c.in_ok-words.words.items) c.in_ok-fault-2.field-0 c.in_ok-parts.ensures words.count found in
    whole ks text keeps (kept ∙ c.in_default-2.is) (rw (c.deref-6.ensures.value) at c.in_ok-linked.ensures)
