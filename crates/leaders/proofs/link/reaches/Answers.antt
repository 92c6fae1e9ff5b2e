use Rattle.leaders.proofs.Walking.{first_fits, first-size, first-none, reaches-is, read_low, read_whole, kept-mark}
use Rattle.leaders.proofs.link.reaches.Goals as goal

pub bounds-marks-from : goal.bounds-marks-from
bounds-marks-from c = search first_fits

pub linked-requires : goal.linked-requires
linked-requires c = record { marks_len = search first-size; lower_le_upper = search read_low; unmarked = search first-none; table_value_2 = search read_whole }

pub shape_of-marks : goal.shape_of-marks
shape_of-marks c = search kept-mark

pub returns : goal.returns
returns c = search reaches-is
