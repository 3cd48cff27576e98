-- The numbers that options take, from the least to the greatest.
use Rattle.command_line.specs.declared.ranges.NumberRange.{NumberRange}

abbrev pub depth_range : NumberRange
depth_range = record { least = 0; most = 8 }

abbrev pub tries_range : NumberRange
tries_range = record { least = 1; most = 1000000 }

abbrev pub steps_range : NumberRange
steps_range = record { least = 1; most = 100000 }

abbrev pub plain_range : NumberRange
plain_range = record { least = 0; most = 1000 }

abbrev pub nodes_range : NumberRange
nodes_range = record { least = 0; most = 10000 }

-- how many goals `load` generates
abbrev pub goals_range : NumberRange
goals_range = record { least = 1; most = 200 }
