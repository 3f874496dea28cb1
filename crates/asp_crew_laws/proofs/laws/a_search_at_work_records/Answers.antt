use Rattle.asp_crew_laws.proofs.WorkLaws.{work-adopted, work-burnt, work-delivered, work-improved, work-leased, work-told, work-unimproved}
use Rattle.asp_crew_laws.proofs.laws.a_search_at_work_records.Goals as goal

pub returns : goal.returns
returns c = record { burnt = work-burnt; delivered = work-delivered; told = work-told; adopted = work-adopted; improved = work-improved; unimproved = work-unimproved; leased = work-leased }
