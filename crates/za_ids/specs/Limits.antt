-- The limit of labels.
use Rattle.std.specs.Prelude.{ℕ, ◌+◌, ◌^◌}
use Rattle.za_alpha.specs.Limits.{most_processes}

-- how many labels a letter has with the most processes
abbrev pub most_labels : ℕ
most_labels = most_processes ^ 3 + 1
