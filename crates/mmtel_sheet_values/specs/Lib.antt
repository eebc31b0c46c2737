-- Definitions that public contracts cite.
pub mod Sheets
pub mod NoReply
pub mod View
-- Definitions of which the model of the table of sheets consists.
pub mod Slots

-- Definitions that only private functions cite: none.
