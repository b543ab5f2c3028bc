mod NameSteps
mod NamedCounts
mod OneTable
mod RowLaws
mod SpanLaws
