-- The table, row by row.
use Rattle.std.proofs.Common.{◌≡◌, ◌∙◌, ◌<◌, ◌+◌, ℕ, List, [], ◌∷◌, ◌++◌, ap, ap₂, get_or, length, map, refl, sym, take}
use Rattle.std.proofs.lemmas.List.{map_more}
use Rattle.clap.specs.Walk.{Rule, Text}
use Rattle.clap.specs.Simple.{App, Shape, with_rule, with_subcommand}
use Rattle.command_line.specs.Inner.Rows.{leaf, rule_in, shape_in, with_subcommands}
use Rattle.command_line.specs.declared.commands.Cell.{Cell}
use Rattle.command_line.specs.declared.commands.Row.{Row}

-- one cell more
pub next_cell : (name : Text) (cells : List Cell) (i : ℕ) (d : Cell) (old new : App) (rule : Rule) → i < length cells
    → new ≡ with_rule old rule → old ≡ leaf name (map rule_in (take i cells)) → rule ≡ rule_in (get_or cells i d)
    → new ≡ leaf name (map rule_in (take (i + 1) cells))
next_cell name cells i d old new rule lt adds is same =
    adds ∙ ap₂ with_rule is same ∙ ap (leaf name) (sym (map_more rule_in cells i d lt))

-- one row more
with_one_more : (app : App) (shapes : List Shape) (shape : Shape) → with_subcommands app (shapes ++ shape ∷ []) ≡ with_subcommand (with_subcommands app shapes) shape
with_one_more app [] shape = refl
with_one_more app (first ∷ rest) shape = with_one_more (with_subcommand app first) rest shape

pub next_row : (first old new : App) (rows : List Row) (i : ℕ) (d : Row) → i < length rows
    → new ≡ with_subcommand old (shape_in (get_or rows i d)) → old ≡ with_subcommands first (map shape_in (take i rows))
    → new ≡ with_subcommands first (map shape_in (take (i + 1) rows))
next_row first old new rows i d lt adds is =
    adds ∙ ap (λ (x : App). with_subcommand x (shape_in (get_or rows i d))) is
    ∙ sym (with_one_more first (map shape_in (take i rows)) (shape_in (get_or rows i d)))
    ∙ ap (with_subcommands first) (sym (map_more shape_in rows i d lt))
