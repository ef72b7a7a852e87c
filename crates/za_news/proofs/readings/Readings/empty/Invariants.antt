use Rattle.std.proofs.Common.{◌≡◌, [], map, replicate}
use Rattle.za_news.specs.Private.Inside.{numbers_of}
use Rattle.za_news.proofs.readings.Readings.empty.Given as goal

abbrev pub invariant-loop : goal.invariant-loop
invariant-loop l = map numbers_of l.lists.items ≡ replicate l.counter []
