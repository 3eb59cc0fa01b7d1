-- Lines, boxes, films and the shelf, tested by their bytes.
mod Lines
mod Boxes
mod Films
