-- Laws of columns, lines and pages.
pub mod ColumnLaws
pub mod LineLaws
pub mod PageLaws
pub mod SheetLaws
