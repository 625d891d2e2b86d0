-- The length, the call that makes a string, and its bytes.
use Rattle.std.proofs.Common.{◌≡◌, refl}
use Rattle.std.proofs.lemmas.Result.{on_ok_weaker}
use Rattle.jack_meaning.specs.Text as meaning
use Rattle.jack_core.specs.declared.tree.Part.TheVariants as part
use Rattle.jack_names.specs.Made.{filled_characters, one}
use Rattle.jack_names.specs.Inner.Meant.{string_meant}
use Rattle.jack_names.specs.Inner.Scoped.{the_scope}
use Rattle.jack_names.proofs.Pushing.{added_as, added_turned, turns}
use Rattle.jack_names.proofs.meant.push_string.Goals as goal

pub returns : goal.returns
returns c =
    let text = c.args.text.now in
    let old = c.args.parts.now.items in
    let middle = c.push_value.new.parts.items in
    let full = c.push_part.new.parts.items in
    let new = c.push_bytes.new.parts.items in
    let g = c.made_number-new.result in
    let append = c.made_number-append.result in
    let n = meaning.Literal c.length_word.result in
    let same : filled_characters append (meaning.Call g (one n)) text ≡ string_meant (the_scope c.args.scope.now) text = cc in
    let made = added_turned n (λ e. meaning.Call g (one e)) old middle full c.in_ok-push_value.ensures (turns (part.Call 1 g) (λ e. meaning.Call g (one e)) middle full refl (λ e. refl) c.in_ok-push_part.ensures) in
    on_ok_weaker c.push_bytes.result
    (λ fills. added_as (filled_characters append (meaning.Call g (one n)) text) (string_meant (the_scope c.args.scope.now) text) old new same (added_turned (meaning.Call g (one n)) (λ e. filled_characters append e text) old full new made fills))
    c.push_bytes.ensures
