-- What texts spell is one thing, where the language reads each text in one way; and so of a folder whose files are known.
use Rattle.std.proofs.Common.{◌≡◌, ◌<◌, ◌++◌, ℕ, List, [], ◌∷◌, Some, length, map, refl, sym, ◌∙◌, ap, subst, inl, inr, arith}
use Rattle.outer_world.specs.Files.{Files, HasFile, path_in}
use Rattle.outer_world.specs.Refusals.{Message, message_line}
use Rattle.source_files.specs.Folder.{AreNames, AreSources, overfull}
use Rattle.source_files.specs.Sources.{FolderSpells, IsFaulty, IsUnread, SpellEach, SpellsAt}
use Rattle.source_files.proofs.Names.{one_list}

-- Of the sources that a text spells one view is the same. At most one thing is reported of a text, and a text that spells a source is not
-- refused.
pub record ReadsOnce {A B : Type 0} (spells : List ℕ → List ℕ → A → Type 0) (refuses : List ℕ → Message → Type 0) (view : A → B) : Type 0 where
  pub one : (name text : List ℕ) (a b : A) → spells name text a → spells name text b → view a ≡ view b
  pub one_told : (text : List ℕ) (s t : Message) → refuses text s → refuses text t → s ≡ t
  pub not_both : (name text : List ℕ) (a : A) (t : Message) → spells name text a → refuses text t → ⊥

-- a path has one text
pub one_text : (files : Files) (path text other : List ℕ) → HasFile (Some files) path text → HasFile (Some files) path other → text ≡ other
one_text files path text other h k = cc

module _ {A B : Type 0} (spells : List ℕ → List ℕ → A → Type 0) (refuses : List ℕ → Message → Type 0) (view : A → B) (once : ReadsOnce spells refuses view) (files : Files) where
  -- ---- a file

  pub one_source : (name path : List ℕ) (a b : A) → SpellsAt (spells name) (Some files) path a → SpellsAt (spells name) (Some files) path b → view a ≡ view b
  one_source name path a b (text, has, h) (other, has', k) =
      once.one name text a b h (subst (λ t. spells name t b) (one_text files path other text has' has) k)

  pub one_fault : (path line other : List ℕ) → IsFaulty refuses (Some files) path line → IsFaulty refuses (Some files) path other → line ≡ other
  one_fault path line other (text, told, has, h, e) (text', told', has', k, d) =
      e ∙ ap (message_line path) (once.one_told text told told' h (subst (λ t. refuses t told') (one_text files path text' text has' has) k)) ∙ sym d

  pub never_both : (name path : List ℕ) (a : A) (line : List ℕ) → SpellsAt (spells name) (Some files) path a → IsFaulty refuses (Some files) path line → ⊥
  never_both name path a line (text, has, h) (text', told, has', k, d) =
      once.not_both name text a told h (subst (λ t. refuses t told) (one_text files path text' text has' has) k)

  -- ---- the files of some names

  one_each : (folder : List ℕ) (names : List (List ℕ)) (xs ys : List A) → SpellEach spells (Some files) folder names xs → SpellEach spells (Some files) folder names ys → map view xs ≡ map view ys
  one_each folder [] [] [] h k = refl
  one_each folder [] [] (y ∷ ys) h k = absurd k
  one_each folder [] (x ∷ xs) ys h k = absurd h
  one_each folder (n ∷ names) [] ys h k = absurd h
  one_each folder (n ∷ names) (x ∷ xs) [] h k = absurd k
  one_each folder (n ∷ names) (x ∷ xs) (y ∷ ys) h k =
      let first = one_source n (path_in folder n) x y h.0 k.0 in
      let rest = one_each folder names xs ys h.1 k.1 in
      cc

  -- no text of those that are all spelled is refused
  all_spelled : (folder : List ℕ) (before : List (List ℕ)) (name : List ℕ) (after : List (List ℕ)) (xs : List A) (line : List ℕ) → SpellEach spells (Some files) folder (before ++ name ∷ after) xs
      → IsFaulty refuses (Some files) (path_in folder name) line → ⊥
  all_spelled folder [] name after [] line h k = h
  all_spelled folder [] name after (x ∷ xs) line h k = never_both name (path_in folder name) x line h.0 k
  all_spelled folder (n ∷ before) name after [] line h k = h
  all_spelled folder (n ∷ before) name after (x ∷ xs) line h k = all_spelled folder before name after xs line h.1 k

  one_first : (folder : List ℕ) (before before' : List (List ℕ)) (name name' : List ℕ) (after after' : List (List ℕ)) (xs xs' : List A) (line line' : List ℕ) → before ++ name ∷ after ≡ before' ++ name' ∷ after'
      → SpellEach spells (Some files) folder before xs → SpellEach spells (Some files) folder before' xs'
      → IsFaulty refuses (Some files) (path_in folder name) line → IsFaulty refuses (Some files) (path_in folder name') line' → line ≡ line'
  one_first folder [] [] name name' after after' xs xs' line line' e h h' k k' =
      let same : name ≡ name' = cc in one_fault (path_in folder name) line line' k (subst (λ n. IsFaulty refuses (Some files) (path_in folder n) line') (sym same) k')
  one_first folder [] (n ∷ before') name name' after after' xs [] line line' e h h' k k' = absurd h'
  one_first folder [] (n ∷ before') name name' after after' xs (x ∷ xs') line line' e h h' k k' =
      let same : name ≡ n = cc in absurd (never_both n (path_in folder n) x line h'.0 (subst (λ m. IsFaulty refuses (Some files) (path_in folder m) line) same k))
  one_first folder (n ∷ before) [] name name' after after' [] xs' line line' e h h' k k' = absurd h
  one_first folder (n ∷ before) [] name name' after after' (x ∷ xs) xs' line line' e h h' k k' =
      let same : n ≡ name' = cc in absurd (never_both n (path_in folder n) x line' h.0 (subst (λ m. IsFaulty refuses (Some files) (path_in folder m) line') (sym same) k'))
  one_first folder (n ∷ before) (n' ∷ before') name name' after after' [] xs' line line' e h h' k k' = absurd h
  one_first folder (n ∷ before) (n' ∷ before') name name' after after' (x ∷ xs) [] line line' e h h' k k' = absurd h'
  one_first folder (n ∷ before) (n' ∷ before') name name' after after' (x ∷ xs) (x' ∷ xs') line line' e h h' k k' =
      let rest : before ++ name ∷ after ≡ before' ++ name' ∷ after' = cc in
      one_first folder before before' name name' after after' xs xs' line line' rest h.1 h'.1 k k'

  -- ---- a folder

  one_sources : (folder ending : List ℕ) (names others : List (List ℕ)) → AreSources (Some files) folder ending names → AreSources (Some files) folder ending others → names ≡ others
  one_sources folder ending names others are also = one_list files folder ending names others are.0 also.0

  pub one_folder : (folder ending : List ℕ) (xs ys : List A) → FolderSpells spells ending (Some files) folder xs → FolderSpells spells ending (Some files) folder ys → map view xs ≡ map view ys
  one_folder folder ending xs ys (names, are, h) (others, also, k) =
      one_each folder names xs ys h (subst (λ ns. SpellEach spells (Some files) folder ns ys) (sym (one_sources folder ending names others are also)) k)

  not_so_many : (folder ending : List ℕ) (names others : List (List ℕ)) → AreNames (Some files) folder ending names → 256 < length names → AreSources (Some files) folder ending others → ⊥
  not_so_many folder ending names others are many also =
      let e = ap length (one_list files folder ending names others are also.0) in let few = also.1 in omega (arith, e, few, many)

  pub one_refusal : (folder ending line other : List ℕ) → IsUnread spells refuses ending (Some files) folder line → IsUnread spells refuses ending (Some files) folder other → line ≡ other
  one_refusal folder ending line other (inl (names, are, many, e)) (inl (others, also, more, d)) =
      e ∙ ap (λ (ns : List (List ℕ)). message_line folder (overfull (length ns))) (one_list files folder ending names others are also) ∙ sym d
  one_refusal folder ending line other (inl (names, are, many, e)) (inr (others, also, faulty)) = absurd (not_so_many folder ending names others are many also)
  one_refusal folder ending line other (inr (names, are, faulty)) (inl (others, also, more, d)) = absurd (not_so_many folder ending others names also more are)
  one_refusal folder ending line other (inr (names, are, (before, name, after, xs, e, h, k))) (inr (others, also, (before', name', after', xs', d, h', k'))) =
      one_first folder before before' name name' after after' xs xs' line other (sym e ∙ one_sources folder ending names others are also ∙ d) h h' k k'

  pub never_unread : (folder ending : List ℕ) (xs : List A) (line : List ℕ) → FolderSpells spells ending (Some files) folder xs → IsUnread spells refuses ending (Some files) folder line → ⊥
  never_unread folder ending xs line (names, are, h) (inl (others, also, more, d)) = not_so_many folder ending others names also more are
  never_unread folder ending xs line (names, are, h) (inr (others, also, (before, name, after, ys, e, spelled, k))) =
      all_spelled folder before name after xs line (subst (λ ns. SpellEach spells (Some files) folder ns xs) (one_sources folder ending names others are also ∙ e) h) k
