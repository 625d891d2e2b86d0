-- The class of a generated text is well named.
use Rattle.std.proofs.Common.{◌≡◌, zero, suc, true, false, List, [], ◌∷◌, map, None, codes, refl, subst, arith, not}
use Rattle.jack_tree.specs.Syntax.{Class, ClassFile, Statements}
use Rattle.jack_parser.specs.Spelled.{ClassLaw}
use Rattle.name_table.specs.Names.{first_of}
use Rattle.jack_names.specs.Faults.{Source, first_in}
use Rattle.jack_names.specs.Using.{Use, Body, body, statements_uses}
use Rattle.jack_names.specs.NameFaults.{no_main, IsWellNamed}
use Rattle.jack_names.proofs.Finding.{fails_if}
use Rattle.jack_names.proofs.Searched.{point, declarations, has_main}
use Rattle.jack_names.proofs.Found.{finds_none}
use Rattle.jack_os.specs.System.{system}
use Rattle.jack_os.proofs.SystemTexts.{system_classes, are_files, one_list}
use Rattle.os_named.proofs.Fine.{title, are_fine, uses_fine}
use Rattle.soak_laws.specs.Named.{folder_of, NamedLaw}
use Rattle.soak_laws.proofs.Uses.{Each, Usable, AVariable, AProduct, AQuotient, AClass, ACall}
use Rattle.scan_text.specs.declared.Place.{Place}
use Rattle.soak_laws.proofs.Pieces.{Places}
use Rattle.soak_laws.proofs.Programs.{class_at, generated, main_of}
use Rattle.soak_program.specs.Laws.{LengthLaw}
use Rattle.jack_parser.specs.PrintedClass.{PrintedClassLaw}

-- ---- By computation

system_declared : declarations true [] system_classes ≡ None
system_declared = refl

system_fine : are_fine system_classes ≡ true
system_fine = refl

module _ (ss : Places → Statements) (close : Places → Place) (p : Places) where
  abbrev own : List ClassFile
  own = folder_of (class_at ss close p)

  abbrev within : Body
  within = body (class_at ss close p) (main_of ss close p)

  abbrev told_in : Source
  told_in = record { shipped = false; file = codes "Main.jack" }

  declared : declarations false (map title system_classes) own ≡ None
  declared = refl

  main : has_main own system_classes ≡ true
  main = refl

  fine : (u : Use) → Usable u → point own system_classes told_in within u ≡ None
  fine u (AVariable zero h) = refl
  fine u (AVariable (suc zero) h) = refl
  fine u (AVariable (suc (suc zero)) h) = refl
  fine u (AVariable (suc (suc (suc zero))) h) = refl
  fine u (AVariable (suc (suc (suc (suc n)))) h) = absurd (omega arith)
  fine u AProduct = refl
  fine u AQuotient = refl
  fine u AClass = refl
  fine u ACall = refl

  all_fine : (us : List Use) → Each Usable us → first_in (point own system_classes told_in within) us ≡ None
  all_fine [] h = refl
  all_fine (u ∷ us) h = λ i. first_of (fine u h.0 i) (all_fine us h.1 i)

  pub well : Each Usable (statements_uses (main_of ss close p).statements) → IsWellNamed own system_classes
  well h =
      let uses = all_fine (statements_uses (main_of ss close p).statements) h in
      let others = uses_fine own system_classes system_fine declared main in
      (finds_none own system_classes).0
      (λ i. first_of (first_of (declared i) (system_declared i)) (first_of (fails_if (not (main i)) no_main) (first_of (first_of (first_of (uses i) None) None) (others i))))

pub named : PrintedClassLaw → LengthLaw → ClassLaw → NamedLaw
named printed short one s t text c os h spells system_is =
    let g = generated printed short h in
    let same : class_at g.body g.close g.at ≡ c = (one text).one (class_at g.body g.close g.at) c g.spells spells in
    let shipped : system_classes ≡ os = one_list system system_classes os are_files system_is in
    subst (λ (l : List ClassFile). IsWellNamed (folder_of c) l) shipped (subst (λ (k : Class). IsWellNamed (folder_of k) system_classes) same (well g.body g.close g.at g.uses))
