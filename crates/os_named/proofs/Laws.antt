-- No name fault is reported of the operating system.
use Rattle.std.proofs.Common.{◌≡◌, Bool, true, false, not, List, [], map, Option, Some, None, refl, sym, subst}
use Rattle.jack_tree.specs.Syntax.{ClassFile}
use Rattle.name_table.specs.Names.{first_of}
use Rattle.jack_names.specs.Faults.{NameDiagnostic, first_in}
use Rattle.jack_names.specs.Using.{file, system_files}
use Rattle.jack_names.specs.NameFaults.{no_main, Spot, Fails, IsWellNamed}
use Rattle.jack_names.specs.FaultOrder.{IsFirstFault}
use Rattle.jack_names.proofs.Finding.{fails_if}
use Rattle.jack_names.proofs.Searched.{declarations, file_faults, has_main, all_faults}
use Rattle.jack_names.proofs.Found.{finds_first, finds_none}
use Rattle.jack_os.specs.System.{AreFilesOf, system}
use Rattle.jack_os.proofs.SystemTexts.{one_list}
use Rattle.os_named.specs.Laws.{SystemNamedLaw}
use Rattle.jack_os.proofs.SystemTexts.{system_classes, are_files}
use Rattle.os_named.proofs.Own.{InFolder, or_else, declarations_in, files_in}
use Rattle.os_named.proofs.Fine.{title, are_fine, uses_fine}

-- by computation
declared : declarations true [] system_classes ≡ None
declared = refl

fine : are_fine system_classes ≡ true
fine = refl

none_in_folder : (o : Option NameDiagnostic) → o ≡ None → InFolder o
none_in_folder None h = tt
none_in_folder (Some t) h = absurd cc

module _ (own : List ClassFile) where
  abbrev D : Option NameDiagnostic
  D = declarations false (map title system_classes) own

  abbrev M : Option NameDiagnostic
  M = fails_if (not (has_main own system_classes)) no_main

  abbrev F : Option NameDiagnostic
  F = first_in (file_faults own system_classes) (map (file false) own)

  abbrev S : Option NameDiagnostic
  S = first_in (file_faults own system_classes) (system_files system_classes)

  uses : (d : Option NameDiagnostic) (b : Bool) → D ≡ d → has_main own system_classes ≡ b → InFolder (first_of (first_of d (declarations true [] system_classes)) (first_of (fails_if (not b) no_main) (first_of F S)))
  uses (Some t) b e h = subst InFolder e (declarations_in (map title system_classes) own)
  uses None false e h = refl
  uses None true e h =
      subst (λ (o : Option NameDiagnostic). InFolder (first_of (first_of None o) (first_of None (first_of F S)))) (sym declared)
      (or_else F S (files_in own system_classes own) (none_in_folder S (uses_fine own system_classes fine e h)))

  pub in_folder : InFolder (all_faults own system_classes)
  in_folder = uses D (has_main own system_classes) refl refl

  -- The first fault is reported of the folder.
  pub first : (told : NameDiagnostic) → IsFirstFault own system_classes told → told.shipped ≡ false
  first told h = subst InFolder ((finds_first own system_classes told).1 h) in_folder

  -- Where no fault is reported of the folder none is reported.
  pub well : ((at : Spot) (told : NameDiagnostic) → told.shipped ≡ false → Fails own system_classes at told → ⊥) → IsWellNamed own system_classes
  well never = by (all_faults own system_classes) refl
    where
      by : (o : Option NameDiagnostic) → all_faults own system_classes ≡ o → IsWellNamed own system_classes
      by None e = (finds_none own system_classes).0 e
      by (Some t) e =
          let f = (finds_first own system_classes t).0 e in
          absurd (never f.at t (first t f) f.fails)

-- the system has one list of classes
same : (os : List ClassFile) → AreFilesOf system os → system_classes ≡ os
same os h = one_list system system_classes os are_files h

pub law : SystemNamedLaw
law = record {
  first = λ own os told h. subst (λ (cs : List ClassFile). IsFirstFault own cs told → told.shipped ≡ false) (same os h) (first own told);
  well = λ own os h. subst (λ (cs : List ClassFile). ((at : Spot) (told : NameDiagnostic) → told.shipped ≡ false → Fails own cs at told → ⊥) → IsWellNamed own cs) (same os h) (well own);
}
