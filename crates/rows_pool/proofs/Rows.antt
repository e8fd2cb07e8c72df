-- Every row of specs/Rows comes out as it says, by computation. Assumes nothing.
use mathlib.Core.Path.{refl}
use Rattle.pool.specs.Pool.{every, free_b, size_b, block_b, sound_b, fits_b, lowest, given_out_b, takes, gives_back_of}
use Rattle.rows_pool.specs.Rows.{taken, back, unsound, sizes, Right, SizesRight}

pub taken_right : Right taken
unfolding every free_b size_b block_b sound_b fits_b lowest given_out_b takes gives_back_of taken
taken_right = refl

pub back_right : Right back
unfolding every free_b size_b block_b sound_b fits_b lowest given_out_b takes gives_back_of back
back_right = refl

pub unsound_right : Right unsound
unfolding every free_b size_b block_b sound_b fits_b lowest given_out_b takes gives_back_of unsound
unsound_right = refl

pub sizes_right : SizesRight
unfolding every free_b size_b block_b sound_b fits_b lowest takes sizes
sizes_right = refl
