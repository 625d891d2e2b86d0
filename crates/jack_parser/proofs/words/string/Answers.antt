use Rattle.std.proofs.Common.{length, drop, sym, subst, ◌-◌}
use Rattle.std.specs.Str.{IsAscii}
use Rattle.std.proofs.lemmas.Str.{IsAscii-take, IsAscii-drop}
use Rattle.jack_parser.proofs.words.string.Goals as goal

pub text_of-requires : goal.text_of-requires
text_of-requires c =
    let text = c.args.text.now in
    subst IsAscii (sym c.unquoted-inside.ensures) (IsAscii-take (drop 1 text) (length text - 2) (IsAscii-drop text 1 c.requires))
