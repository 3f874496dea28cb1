use Rattle.asp_faults.proofs.texts.write_kind.Goals as goal

pub returns-in-Header : goal.returns-in-Header
returns-in-Header g c = rw c.in-Header.is c.write.ensures

pub returns-in-Incremental : goal.returns-in-Incremental
returns-in-Incremental g c = rw c.in-Incremental.is c.write-in-Incremental.ensures

pub returns-in-Tag : goal.returns-in-Tag
returns-in-Tag g c = rw c.in-Tag.is c.write-in-Tag.ensures

pub returns-in-Disjunction : goal.returns-in-Disjunction
returns-in-Disjunction g c = rw c.in-Disjunction.is c.write-in-Disjunction.ensures

pub returns-in-Edge : goal.returns-in-Edge
returns-in-Edge g c = rw c.in-Edge.is c.write-in-Edge.ensures

pub returns-in-Theory : goal.returns-in-Theory
returns-in-Theory g c = rw c.in-Theory.is c.write-in-Theory.ensures

pub returns-in-Text : goal.returns-in-Text
returns-in-Text g c = rw c.in-Text.is c.write-in-Text.ensures

pub returns-in-ExtraFields : goal.returns-in-ExtraFields
returns-in-ExtraFields g c = rw c.in-ExtraFields.is c.write-in-ExtraFields.ensures

pub returns-in-NoEnd : goal.returns-in-NoEnd
returns-in-NoEnd g c = rw c.in-NoEnd.is c.write-in-NoEnd.ensures

pub returns-in-AfterEnd : goal.returns-in-AfterEnd
returns-in-AfterEnd g c = rw c.in-AfterEnd.is c.write-in-AfterEnd.ensures

pub returns-in-Counts : goal.returns-in-Counts
returns-in-Counts g c = rw c.in-Counts.is c.write-in-Counts.ensures

pub returns-in-Priorities : goal.returns-in-Priorities
returns-in-Priorities g c = rw c.in-Priorities.is c.write-in-Priorities.ensures

pub returns-in-Atoms : goal.returns-in-Atoms
returns-in-Atoms g c = rw c.in-Atoms.is c.write-in-Atoms.ensures

pub returns-in-Name : goal.returns-in-Name
returns-in-Name g c = rw c.in-Name.is c.write-in-Name.ensures

pub returns-in-Section : goal.returns-in-Section
returns-in-Section g c = rw c.in-Section.is c.write-in-Section.ensures

pub returns-in-Externals : goal.returns-in-Externals
returns-in-Externals g c = rw c.in-Externals.is c.write-in-Externals.ensures

pub returns-in-Empty : goal.returns-in-Empty
returns-in-Empty g c = rw c.in-Empty.is c.write-in-Empty.ensures

pub returns-in-Projection : goal.returns-in-Projection
returns-in-Projection g c = rw c.in-Projection.is c.write-in-Projection.ensures

pub returns-in-Queries : goal.returns-in-Queries
returns-in-Queries g c = rw c.in-Queries.is c.write-in-Queries.ensures
