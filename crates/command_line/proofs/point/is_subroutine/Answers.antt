use Rattle.std.proofs.Common.{◌≡◌, ◌∙◌, inl, inr, List, ℕ, codes, refl, sym, subst}
use Rattle.std.proofs.lemmas.Slice.Eq.{bytes_eq-Decides}
use Rattle.command_line.specs.Point.{IsName, IsSubroutine, before, behind}
use Rattle.command_line.proofs.point.is_subroutine.Goals as goal

pub returns-then-is_name : goal.returns-then-is_name
returns-then-is_name c =
    let text = c.args.text.now in
    let front : c.as_bytes.result.now ≡ before 46 text = c.as_bytes.ensures.value ∙ c.cut.ensures.before in
    let back : c.as_bytes-then-is_name.result.now ≡ behind 46 text = c.as_bytes-then-is_name.ensures.value ∙ c.cut.ensures.behind in
    let class : IsName (before 46 text) = subst IsName front (c.if-is_name.ensures.0 refl) in (
      λ t. inr (class, subst IsName back (c.is_name-then-is_name.ensures.0 t)),
      λ h. elim h [
        | inl e ↦ (let same = (bytes_eq-Decides text (codes "start")).1 e in let other = c.if-eq.ensures in let no : ⊥ = cc in absurd no)
        | inr (a, b) ↦ c.is_name-then-is_name.ensures.1 (subst IsName (sym back) b)
      ],
    )
