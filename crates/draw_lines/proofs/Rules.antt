-- The laws by which the drawings of lines are proved.
use Rattle.laws.specs.Lines.{clamped-drawn, horizontal-beyond, horizontal_on, horizontal-marked, vertical-drawn, vertical-below, vertical_beside, vertical-marked}
use Rattle.laws.specs.Slopes.{slope_flat, slope_steep, sloped-marked, line-horizontal, line-unknown, line-vertical, line_slopes}

pub ruleset horizontals = (clamped-drawn, horizontal-beyond, horizontal_on, horizontal-marked)

pub ruleset verticals = (vertical-drawn, vertical-below, vertical_beside, vertical-marked)

pub ruleset slopes = (slope_flat, slope_steep, sloped-marked)

pub ruleset lines = (line-horizontal, line-unknown, line-vertical, line_slopes)
