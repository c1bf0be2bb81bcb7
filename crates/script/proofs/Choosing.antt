-- The form that fits a line: the first pattern that has its spelling.
use Rattle.std.proofs.Common.{◌≡◌, ℕ, List, ap, sym, ◌∙◌, get_or}
use Rattle.std.specs.Prelude.{Option, None, Some}
use Rattle.model.specs.Script.Read.{Match, no_fields, matched, point_pattern, line_pattern, poke_pattern, send_pattern, ScriptLine, bad_line, if_matched, point_form, line_form, poke_form, send_form, read_line}
use Rattle.script.specs.declared.Form.TheVariants.{Point, Line, Poke, Send, Bad}
use Rattle.script.specs.Meaning.{match_of, meaning}

-- m says whether the line s has p's spelling
module _ (s p : List ℕ) (k : List ℕ → ScriptLine) (z : ScriptLine) (m : Option (List ℕ)) (e : match_of m ≡ matched p s no_fields) where
  takes : (f : List ℕ) → m ≡ Some f → if_matched (matched p s no_fields) k z ≡ k f
  unfolding if_matched
  takes f h = ap (λ (x : Match). if_matched x k z) (sym e ∙ ap match_of h)

  passes : m ≡ None → if_matched (matched p s no_fields) k z ≡ z
  unfolding if_matched
  passes h = ap (λ (x : Match). if_matched x k z) (sym e ∙ ap match_of h)

-- what is left to try after the point, the line and the poke
abbrev after_poke : List ℕ → ScriptLine
after_poke s = if_matched (matched send_pattern s no_fields) send_form bad_line

abbrev after_line : List ℕ → ScriptLine
after_line s = if_matched (matched poke_pattern s no_fields) poke_form (after_poke s)

abbrev after_point : List ℕ → ScriptLine
after_point s = if_matched (matched line_pattern s no_fields) line_form (after_line s)

module _ (s : List ℕ) (p : Option (List ℕ)) (ep : match_of p ≡ matched point_pattern s no_fields) where
  pub is_point : (f : List ℕ) → p ≡ Some f → meaning (Point (get_or f 2 0) (get_or f 1 0) (get_or f 0 0)) ≡ read_line s
  unfolding read_line meaning
  is_point f h = sym (takes s point_pattern point_form (after_point s) p ep f h)

  module _ (np : p ≡ None) (l : Option (List ℕ)) (el : match_of l ≡ matched line_pattern s no_fields) where
    pub is_line : (f : List ℕ) → l ≡ Some f → meaning (Line (get_or f 4 0) (get_or f 3 0) (get_or f 2 0) (get_or f 1 0) (get_or f 0 0)) ≡ read_line s
    unfolding read_line meaning
    is_line f h = sym (passes s point_pattern point_form (after_point s) p ep np ∙ takes s line_pattern line_form (after_line s) l el f h)

    module _ (nl : l ≡ None) (k : Option (List ℕ)) (ek : match_of k ≡ matched poke_pattern s no_fields) where
      pub is_poke : (f : List ℕ) → k ≡ Some f → meaning (Poke (get_or f 1 0) (get_or f 0 0)) ≡ read_line s
      unfolding read_line meaning
      is_poke f h =
          sym (passes s point_pattern point_form (after_point s) p ep np ∙ passes s line_pattern line_form (after_line s) l el nl ∙ takes s poke_pattern poke_form (after_poke s) k ek f h)

      module _ (nk : k ≡ None) (d : Option (List ℕ)) (ed : match_of d ≡ matched send_pattern s no_fields) where
        others : read_line s ≡ after_poke s
        unfolding read_line
        others =
            passes s point_pattern point_form (after_point s) p ep np ∙ passes s line_pattern line_form (after_line s) l el nl
            ∙ passes s poke_pattern poke_form (after_poke s) k ek nk

        pub is_send : (f : List ℕ) → d ≡ Some f → meaning Send ≡ read_line s
        unfolding meaning
        is_send f h = sym (others ∙ takes s send_pattern send_form bad_line d ed f h)

        pub is_bad : d ≡ None → meaning Bad ≡ read_line s
        unfolding meaning
        is_bad h = sym (others ∙ passes s send_pattern send_form bad_line d ed h)
