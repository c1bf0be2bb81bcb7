-- The laws by which the drawings of boxes and ellipses are proved.
use Rattle.laws.specs.Boxes.{low_in, box-beyond, box_on, outline-unknown, outline-drawn, box-filled, box-outlined}
use Rattle.laws.specs.EllipseMarks.{corners-drawn, chord_order, chords-drawn, chords-clamped, part_filled, part-outlined, mark_whole, mark_around, not_wrapped, is_round, ellipse-point, ellipse-nothing, ellipse-filled, ellipse-outlined}

pub ruleset filled = (low_in, box-beyond, box_on)

pub ruleset outlines = (outline-unknown, outline-drawn)

pub ruleset boxes = (box-filled, box-outlined)

pub ruleset parts = (corners-drawn, chord_order, chords-drawn, chords-clamped, part_filled, part-outlined)

pub ruleset chords = (chord_order, chords-drawn, chords-clamped)

pub ruleset marks = (mark_whole, mark_around, not_wrapped)

pub ruleset ellipses = (is_round, ellipse-point, ellipse-nothing, ellipse-filled, ellipse-outlined)
