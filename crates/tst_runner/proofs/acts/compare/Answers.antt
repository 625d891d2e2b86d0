use Rattle.std.proofs.Common.{◌≡◌, ◌≤◌, ◌-◌, ℕ, List, Option, true, false, length, take, drop, subst, sym, ap, ◌∙◌, arith, length-drop}
use Rattle.std.proofs.lemmas.List.{take_all}
use Rattle.script_columns.specs.Comparison.{agrees_first, lines_of}
use Rattle.tst_runner.specs.declared.standing.CompareFile.{CompareFile}
use Rattle.tst_runner.specs.Inner.States.{AreFiles}
use Rattle.tst_runner.proofs.Compared.{AreFiles-next, file-agrees, file-differs}
use Rattle.tst_runner.proofs.acts.compare.Goals as goal

-- the rest of a text, from a place on
rest_whole : (text : List ℕ) (at : ℕ) → take (length text - at) (drop at text) ≡ drop at text
rest_whole text at = take_all (length text - at) (drop at text) (omega (arith, length-drop at text))

pub returns-then-not-agrees_first : goal.returns-then-not-agrees_first
returns-then-not-agrees_first c setting s h =
    let file = c.in-Some.file in
    let P : Option CompareFile → Type 0 = λ x. AreFiles x c.args.state.now.lines s.compared in
    let files = subst P (sym c.in-Some.ensures.value) h.compared in
    let a : c.agrees_first.result ≡ agrees_first (lines_of (take (length c.deref.result.now - file.at) (drop file.at c.deref.result.now))) c.args.line.now = c.agrees_first.ensures in
    let q : take (length c.deref.result.now - file.at) (drop file.at c.deref.result.now) ≡ drop file.at file.text.items = rest_whole c.deref.result.now file.at ∙ ap (λ t. drop file.at t) c.deref.ensures.value in
    let b : agrees_first (lines_of (drop file.at file.text.items)) c.args.line.now ≡ false =
    ap (λ t. agrees_first (lines_of t) c.args.line.now) (sym q) ∙ sym a ∙ c.if-not-agrees_first.true in
    let d = file-differs s.compared file c.args.state.now.lines s.lines c.args.line.now files h.lines b in
    record { compared = d.0; compares = d.1; differs = d.2; path = d.3; number = omega (arith, h.lines) }

pub returns : goal.returns
returns c setting s h =
    let file = c.in-Some.file in
    let k = c.past_line.result in
    let P : Option CompareFile → Type 0 = λ x. AreFiles x c.args.state.now.lines s.compared in
    let files = subst P (sym c.in-Some.ensures.value) h.compared in
    let a : c.agrees_first.result ≡ agrees_first (lines_of (take (length c.deref.result.now - file.at) (drop file.at c.deref.result.now))) c.args.line.now = c.agrees_first.ensures in
    let q : take (length c.deref.result.now - file.at) (drop file.at c.deref.result.now) ≡ drop file.at file.text.items = rest_whole c.deref.result.now file.at ∙ ap (λ t. drop file.at t) c.deref.ensures.value in
    let b : agrees_first (lines_of (drop file.at file.text.items)) c.args.line.now ≡ true =
    ap (λ t. agrees_first (lines_of t) c.args.line.now) (sym q) ∙ sym a ∙ c.if-not-agrees_first.false in
    let W : List ℕ → Type 0 = λ t. k ≤ length t in
    let R : List ℕ → Type 0 = λ t. lines_of (drop k t) ≡ drop 1 (lines_of t) in (
      file-agrees s.compared file c.args.state.now.lines s.lines c.args.line.now files h.lines b,
      record {
        device = h.device;
        loaded = h.loaded;
        columns = h.columns;
        compared = AreFiles-next s.compared file c.args.state.now.lines k files (subst W q c.past_line.ensures.within) (subst R q c.past_line.ensures.rest);
        lines = omega (arith, h.lines);
      },
    )
