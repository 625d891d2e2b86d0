-- A whole text that is read or stops.
use Rattle.std.proofs.Common.{◌≡◌, ℕ, Bool, List, [], ◌∷◌, Result, Ok, Err, sym, ap, ◌∙◌, subst}
use Rattle.std.specs.Prelude.{IfOk, IfErr}
use Rattle.scan_text.specs.declared.Place.{Place}
use Rattle.grammar.specs.declared.ReadError.{ReadError}
use Rattle.grammar.specs.Reading.{Halt}
use Rattle.grammar.proofs.Wholes.{not_read}
use Rattle.vm_tree.specs.declared.program.File.{File}
use Rattle.vm_parser.specs.Tokens.{Word, tokens_of, finish}
use Rattle.vm_parser.specs.Grammar.{vm, whole, greatest}
use Rattle.vm_parser.specs.Trees.{file_tree, file_of, Spells, Refuses}
use Rattle.vm_parser.specs.Inner.Reading.{ReadsAllAs}

module _ (bare : Bool) (name text : List ℕ) (end : Place) (ts us : List Word) (cut : tokens_of text ≡ Ok us) (seen : ts ≡ us) (at : end ≡ finish text) where
  pub found_by : (f : File) → ReadsAllAs (file_tree bare) (file_of bare name) end (whole bare) ts (Ok f) → Spells bare name text (f ∷ [])
  found_by f h =
      let k = subst (λ (p : Place). ReadsAllAs (file_tree bare) (file_of bare name) p (whole bare) ts (Ok f)) at h in
      (k.0, ap (λ g. g ∷ []) k.1, (ts, greatest, cut ∙ ap Ok (sym seen), k.2))

  pub fault_by : (e : ReadError) → ReadsAllAs (file_tree bare) (file_of bare name) end (whole bare) ts (Err e) → Halt (Refuses bare text) e
  fault_by e h =
      let k = subst (λ (p : Place). ReadsAllAs (file_tree bare) (file_of bare name) p (whole bare) ts (Err e)) at h in
      not_read (vm (finish text)) (whole bare) greatest (tokens_of text) ts e (cut ∙ ap Ok (sym seen)) k

  pub found_in : (r : Result File ReadError) → ReadsAllAs (file_tree bare) (file_of bare name) end (whole bare) ts r → IfOk r (λ f. Spells bare name text (f ∷ []))
  found_in (Ok f) h = found_by f h
  found_in (Err e) h = tt

  pub fault_in : (r : Result File ReadError) → ReadsAllAs (file_tree bare) (file_of bare name) end (whole bare) ts r → IfErr r (Halt (Refuses bare text))
  fault_in (Ok f) h = tt
  fault_in (Err e) h = fault_by e h
