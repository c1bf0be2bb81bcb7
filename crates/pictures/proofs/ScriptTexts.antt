-- The scripts as texts, and what they print.
use Rattle.std.specs.Prelude.{◌≡◌, ℕ}
use Rattle.std.proofs.Math.Path.{ap}
use Rattle.std.proofs.Common.{◌∙◌}
use mathlib.Core.List.{List, [], ◌∷◌, ◌++◌}
use Rattle.model.specs.Open.{clear_memory}
use Rattle.model.specs.Characters.{bytes_of}
use Rattle.model.specs.Script.Read.{on_first, script_lines, is_digit, goes_on, take_digits, at_most, take_number, take_word, or_taken, take_mode, take_piece, is_field, with_field, and_then, matched, if_matched, read_line, read_script}
use Rattle.model.specs.Script.Output.{spelled, spaced, printed, said, no_keys, opened, script_text}
use Rattle.order.specs.Opens.{length-clear-memory}
use Rattle.order.specs.Witnesses.{cleared_screen}
use Rattle.pictures.proofs.Scripts.{opened_state, first_answer, point_line, point-first, send_first, then_point, point_end, last-point}

pub point_send : script_text (bytes_of "(point (3 0) or)\n(send)\n") ≡ bytes_of "(done)\n(sent 0 0 160)\n(end 0 79)\n"
unfolding read_script script_lines on_first read_line if_matched matched and_then with_field is_field take_piece take_mode or_taken take_word take_number at_most take_digits goes_on is_digit script_text printed spaced spelled said opened opened_state
point_send = point-first (clear_memory no_keys) (length-clear-memory no_keys) cleared_screen

pub send_point : script_text (bytes_of "(send)\n(point (3 0) or)\n") ≡ bytes_of "(sent 0 0 160)\n(done)\n(end 1 80)\n"
unfolding read_script script_lines on_first read_line if_matched matched and_then with_field is_field take_piece take_mode or_taken take_word take_number at_most take_digits goes_on is_digit script_text printed spaced spelled said opened opened_state
send_point =
    let m = clear_memory no_keys in
    let hm = length-clear-memory no_keys in
    send_first m hm cleared_screen (point_line 0 ∷ [])
    ∙ ap (λ (t : List ℕ). said 0 first_answer ++ t) (then_point m hm cleared_screen [] ∙ ap (λ (t : List ℕ). said 0 [] ++ t) (point_end m hm cleared_screen))

pub send_points : script_text (bytes_of "(send)\n(point (3 0) or)\n(point (3 79) or)\n") ≡ bytes_of "(sent 0 0 160)\n(done)\n(done)\n(end 2 80)\n"
unfolding read_script script_lines on_first read_line if_matched matched and_then with_field is_field take_piece take_mode or_taken take_word take_number at_most take_digits goes_on is_digit script_text printed spaced spelled said opened opened_state
send_points =
    let m = clear_memory no_keys in
    let hm = length-clear-memory no_keys in
    send_first m hm cleared_screen (point_line 0 ∷ point_line 79 ∷ [])
    ∙ ap (λ (t : List ℕ). said 0 first_answer ++ t) (then_point m hm cleared_screen (point_line 79 ∷ []) ∙ ap (λ (t : List ℕ). said 0 [] ++ t) (last-point m hm cleared_screen))
