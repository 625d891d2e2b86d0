-- The words of an instruction. (The book, chapter 4: dest, comp and jump.)
use Rattle.std.specs.Prelude.{ℕ, true, false, List, [], ◌∷◌, if◌then◌else◌, codes}
use Rattle.std.specs.Str.{bytes_eq}
use Rattle.hack_asm.specs.declared.token.Letter.TheVariants as letter
use Rattle.hack_asm.specs.declared.token.Operator.TheVariants as operator
use Rattle.hack_asm.specs.declared.token.Role.{Role}
use Rattle.hack_asm.specs.declared.token.Role.TheVariants as role

-- The texts that mean something in an instruction. The bits of a destination are A, D, M; those of a jump are less, equal,
-- greater. `<<` is a shift to the left. The letters of a destination may stand in any order, each once.
abbrev pub roles : List (List ℕ × Role)
roles =
    (codes "0", role.Letter letter.Zero) ∷ (codes "1", role.Letter letter.One)
    ∷ (codes "A", role.Letter letter.A) ∷ (codes "D", role.Letter letter.D) ∷ (codes "M", role.Letter letter.M)
    ∷ (codes "+", role.Operator operator.Plus) ∷ (codes "-", role.Operator operator.Minus)
    ∷ (codes "&", role.Operator operator.And) ∷ (codes "|", role.Operator operator.Or)
    ∷ (codes "AD", role.Several 0b110) ∷ (codes "DA", role.Several 0b110)
    ∷ (codes "AM", role.Several 0b101) ∷ (codes "MA", role.Several 0b101)
    ∷ (codes "DM", role.Several 0b011) ∷ (codes "MD", role.Several 0b011)
    ∷ (codes "ADM", role.Several 0b111) ∷ (codes "AMD", role.Several 0b111) ∷ (codes "DAM", role.Several 0b111)
    ∷ (codes "DMA", role.Several 0b111) ∷ (codes "MAD", role.Several 0b111) ∷ (codes "MDA", role.Several 0b111)
    ∷ (codes "JGT", role.Jump 0b001) ∷ (codes "JEQ", role.Jump 0b010) ∷ (codes "JGE", role.Jump 0b011)
    ∷ (codes "JLT", role.Jump 0b100) ∷ (codes "JNE", role.Jump 0b101) ∷ (codes "JLE", role.Jump 0b110)
    ∷ (codes "JMP", role.Jump 0b111)
    ∷ (codes "<<", role.Shift true) ∷ (codes ">>", role.Shift false) ∷ []

abbrev pub role_among : List (List ℕ × Role) → List ℕ → Role
role_among [] text = role.Plain
role_among (entry ∷ entries) text = if bytes_eq entry.0 text then entry.1 else role_among entries text

abbrev pub role_of : List ℕ → Role
role_of text = role_among roles text
