use Rattle.za_print.proofs.ReadBack.{read_back}
use Rattle.za_print.proofs.laws.printed_jobs_are_read_back.Goals as goal

pub returns : goal.returns
returns c = read_back
